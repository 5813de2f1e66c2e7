-- Demand 3 on the code in parts: the answers to the K party's calls are the same one by one, the records to its ids are the same in
-- order, and its channels and what is stored of them are the same in the end. Each is read off what the party sees.
-- Assumes nothing.
use Prim.Native.Nat.{ℕ}
use mathlib.Core.Path.{◌≡◌, refl, ap, sym, ◌∙◌}
use mathlib.Core.List.{List, [], ◌∷◌, ◌++◌, map}
use Rattle.board.specs.channel.declared.Channel.{Channel}
use Rattle.board.specs.declared.Board.{Board}
use Rattle.board.specs.Board.{state_in, Held}
use Rattle.answers.specs.declared.Answer.{Answer}
use Rattle.two_runs.specs.TwoRuns.{Party, Start}
use Rattle.code_runs.specs.CodeRuns.{Move, ours, others, Run, own_calls, own_records, view_of, stored_of, Sight, told, got, has, sights, state_after, table_after, own_answers, all_records, Alike}
use Rattle.code_runs.proofs.CodeRuns.{k_sees_the_same_of_the_code}

abbrev answers_in : List Sight → List Answer
answers_in [] = []
answers_in (told a ∷ xs) = a ∷ answers_in xs
answers_in (got b ∷ xs) = answers_in xs
answers_in (has cs bs ∷ xs) = answers_in xs

abbrev records_in : List Sight → List (List ℕ)
records_in [] = []
records_in (told a ∷ xs) = records_in xs
records_in (got b ∷ xs) = b ∷ records_in xs
records_in (has cs bs ∷ xs) = records_in xs

-- the channels seen last, with what is stored of them; x where none are
abbrev Last : Type 0
Last = List Channel × List (List ℕ)

abbrev last_in : Last → List Sight → Last
last_in x [] = x
last_in x (told a ∷ xs) = last_in x xs
last_in x (got b ∷ xs) = last_in x xs
last_in x (has cs bs ∷ xs) = last_in (cs, bs) xs

answers_in-got : (bs : List (List ℕ)) (xs : List Sight) → answers_in (map got bs ++ xs) ≡ answers_in xs
answers_in-got [] xs = refl
answers_in-got (b ∷ bs) xs = answers_in-got bs xs

records_in-got : (bs : List (List ℕ)) (xs : List Sight) → records_in (map got bs ++ xs) ≡ bs ++ records_in xs
records_in-got [] xs = refl
records_in-got (b ∷ bs) xs = ap (λ (l : List (List ℕ)). b ∷ l) (records_in-got bs xs)

last_in-got : (x : Last) (bs : List (List ℕ)) (xs : List Sight) → last_in x (map got bs ++ xs) ≡ last_in x xs
last_in-got x [] xs = refl
last_in-got x (b ∷ bs) xs = last_in-got x bs xs

answers-sights : (p : Party) (st : Board) (tb : List ℕ) (ms : List Move) → own_answers ms ≡ answers_in (sights p st tb ms)
unfolding own_answers sights
answers-sights p st tb [] = refl
answers-sights p st tb (ours t ∷ ms) = rw (answers_in-got (own_records p t), answers-sights p t.outcome.state t.table ms)
answers-sights p st tb (others t ∷ ms) = rw (answers_in-got (own_records p t), answers-sights p t.outcome.state t.table ms)

records-sights : (p : Party) (st : Board) (tb : List ℕ) (ms : List Move) → all_records p ms ≡ records_in (sights p st tb ms)
unfolding all_records sights
records-sights p st tb [] = refl
records-sights p st tb (ours t ∷ ms) = rw (records_in-got (own_records p t), records-sights p t.outcome.state t.table ms)
records-sights p st tb (others t ∷ ms) = rw (records_in-got (own_records p t), records-sights p t.outcome.state t.table ms)

-- the channels of a board and a table, with what is stored of them
abbrev shown : Party → Board → List ℕ → Last
shown p st tb = (view_of p st, stored_of p st tb)

channels-sights : (p : Party) (st : Board) (tb : List ℕ) (x : Last) (ms : List Move)
    → shown p (state_after st ms) (table_after tb ms) ≡ last_in x (sights p st tb ms)
unfolding state_after table_after sights
channels-sights p st tb x [] = refl
channels-sights p st tb x (ours t ∷ ms) =
    let st₁ = t.outcome.state in
    channels-sights p st₁ t.table (shown p st₁ t.table) ms
    ∙ sym (last_in-got x (own_records p t) (told t.outcome.answer ∷ has (view_of p st₁) (stored_of p st₁ t.table) ∷ sights p st₁ t.table ms))
channels-sights p st tb x (others t ∷ ms) =
    channels-sights p t.outcome.state t.table x ms ∙ sym (last_in-got x (own_records p t) (sights p t.outcome.state t.table ms))

pub answers-replies-channels : (p : Party) (st : Board) (tb : List ℕ) (ms ns : List Move) → Held st tb → Start p (state_in st tb) → Run p st tb ms → Run p st tb ns
    → own_calls ms ≡ own_calls ns → Alike p st tb ms ns
answers-replies-channels p st tb ms ns h a r s e =
    let q = k_sees_the_same_of_the_code p st tb ms ns h a r s e in
    let l : shown p (state_after st ms) (table_after tb ms) ≡ shown p (state_after st ns) (table_after tb ns) =
    channels-sights p st tb ([], []) ms ∙ ap (last_in ([], [])) q ∙ sym (channels-sights p st tb ([], []) ns) in
    record {
      answers = answers-sights p st tb ms ∙ ap answers_in q ∙ sym (answers-sights p st tb ns);
      replies = records-sights p st tb ms ∙ ap records_in q ∙ sym (records-sights p st tb ns);
      channels = ap (λ (x : Last). x.0) l;
      stored = ap (λ (x : Last). x.1) l;
    }
