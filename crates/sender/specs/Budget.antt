-- What demand 3 says of the calls that change the framework in place, on two tapes or on words: calls in a row, and what is counted
-- from their replies and outputs. The theorem is `Rattle.sender.proofs.Budget`.
use Rattle.std.specs.Prelude.{ℕ, cond, List, [], ◌∷◌, ◌≡◌, T, eqb}
use Rattle.machine.specs.Source.{tapes}
use Rattle.steps.specs.Events.{Tables}
use Rattle.steps.specs.Words.{Lent, on_tapes, on_words}
use Rattle.steps.specs.Budget.{Call, Ledger, counted, returned, returns_padding, Spends}
use Rattle.steps.specs.declared.Framework.{Framework}
use Rattle.sender.specs.Reply.{Promised, PromisedWords}
use Rattle.sender.specs.declared.Reply.{Reply}
use Rattle.sender.specs.declared.ReplyWords.{ReplyWords}

-- ---- the reply to a call on what is lent, and what both kinds say
abbrev pub ReplyTo : Lent → Type 0
ReplyTo (on_tapes chances values) = Reply
ReplyTo (on_words ws) = ReplyWords

abbrev pub refusal_in : (lent : Lent) → ReplyTo lent → ℕ
refusal_in (on_tapes chances values) r = r.refusal
refusal_in (on_words ws) r = r.refusal

abbrev pub actions_in : (lent : Lent) → ReplyTo lent → ℕ
actions_in (on_tapes chances values) r = r.actions
actions_in (on_words ws) r = r.actions

-- a call that was made: what was lent, and what it left: the framework, the reply of its kind and the output
pub record Made : Type 0 where
  pub call : Call
  pub framework : Framework
  pub reply : ReplyTo call.lent
  pub out : List ℕ

abbrev pub replied_refusal : Made → ℕ
replied_refusal m = refusal_in m.call.lent m.reply

abbrev pub replied_actions : Made → ℕ
replied_actions m = actions_in m.call.lent m.reply

-- it is a call of its kind on the framework x: it left what that kind's contract promises
abbrev pub Leaves : Framework → Tables → ℕ → List ℕ → (lent : Lent) → List ℕ → Framework → ReplyTo lent → List ℕ → Type 0
Leaves x T time es (on_tapes chances values) out y r z = Promised x T time es (tapes chances values) out y r z
Leaves x T time es (on_words ws) out y r z = PromisedWords x T time es ws out y r z

abbrev pub Kept : Framework → Made → Type 0
Kept x m =
    let c = m.call in
    Leaves x c.tables c.time c.events c.lent c.out m.framework m.reply m.out

-- calls in a row on one framework, which nobody else writes
abbrev pub History : Framework → List Made → Type 0
History x [] = Unit
History x (m ∷ ms) = Kept x m × History m.framework ms

-- ---- the ledger of what was made, by the replies and the outputs alone
abbrev pub after_made : Ledger → Made → Ledger
after_made l m =
    cond (eqb (replied_refusal m) 0)
    (returned (counted l m.call.events) (returns_padding m.out (replied_actions m)))
    l

abbrev pub ledger_of : Ledger → List Made → Ledger
ledger_of l [] = l
ledger_of l (m ∷ ms) = ledger_of (after_made l m) ms

-- the lists meant: an accepted call is lent the opening's tables, and each PaddingSent in it spends what was held
abbrev pub ListsOf : Tables → Ledger → List Made → Type 0
ListsOf tables l [] = Unit
ListsOf tables l (m ∷ ms) =
    (replied_refusal m ≡ 0 → (m.call.tables ≡ tables) × Spends l m.call.events)
    × ListsOf tables (after_made l m) ms
