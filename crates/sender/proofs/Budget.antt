-- Demand 3 for the calls that change the framework in place, on two tapes or on words: what is counted from their replies and outputs
-- keeps the budgets.
use Rattle.std.specs.Prelude.{ℕ, ◌≤◌, ◌^◌, List, [], ◌∷◌, map, ◌≡◌, refl, T, Float}
use Rattle.std.proofs.Common.{sym, ap, ◌∙◌, subst}
use Rattle.std.specs.Float.{binary64}
use Rattle.std.specs.Float.Ieee.{fits}
use Rattle.steps.specs.Events.{Tables}
use Rattle.steps.specs.Framework.{Batch}
use Rattle.steps.specs.Words.{Lent, on_tapes, on_words, opening_on, batch_on}
use Rattle.steps.specs.Budget.{answer_of, Ledger, empty, after_call, ledger, Lists, packets, Budgets}
use Rattle.steps.proofs.Budget.Theorem.{no_budget_overdrawn}
use Rattle.steps.specs.declared.Framework.{Framework}
use Rattle.sender.specs.Budget.{ReplyTo, refusal_in, actions_in, Made, replied_refusal, replied_actions, Leaves, Kept, History, after_made, ledger_of, ListsOf}
use Rattle.sender.specs.declared.Reply.{Reply}
use Rattle.sender.specs.declared.ReplyWords.{ReplyWords}

-- ---- of either kind, it left what the call by value gives
record Gives (b : Batch) (y : Framework) (n k : ℕ) (z : List ℕ) : Type 0 where
  framework : y ≡ b.answer.framework
  refusal : n ≡ b.answer.refusal
  actions : k ≡ b.answer.actions
  output : z ≡ b.out

leaves : (x : Framework) (T : Tables) (time : ℕ) (es : List ℕ) (lent : Lent) (out : List ℕ) (y : Framework) (r : ReplyTo lent) (z : List ℕ)
    → Leaves x T time es lent out y r z → Gives (batch_on x T time es lent out) y (refusal_in lent r) (actions_in lent r) z
unfolding batch_on
leaves x T time es (on_tapes chances values) out y r z h = record {
  framework = h.framework;
  refusal = ap (λ (r : Reply). r.refusal) h.reply;
  actions = ap (λ (r : Reply). r.actions) h.reply;
  output = h.output;
}
leaves x T time es (on_words ws) out y r z h = record {
  framework = h.framework;
  refusal = ap (λ (r : ReplyWords). r.refusal) h.reply;
  actions = ap (λ (r : ReplyWords). r.actions) h.reply;
  output = h.output;
}

gives : (x : Framework) (m : Made) → Kept x m → Gives (answer_of x m.call) m.framework (replied_refusal m) (replied_actions m) m.out
gives x m h =
    let c = m.call in
    leaves x c.tables c.time c.events c.lent c.out m.framework m.reply m.out h

-- ---- it is the ledger of the same calls by value
after_is : (l : Ledger) (x : Framework) (m : Made) → Kept x m → after_made l m ≡ after_call l x m.call
after_is l x m h =
    let g = gives x m h in
    rw (g.refusal, g.actions, g.output)

ledger_is : (l : Ledger) (x : Framework) (ms : List Made) → History x ms → ledger_of l ms ≡ ledger l x (map (λ m. m.call) ms)
unfolding ledger
ledger_is l x [] h = refl
ledger_is l x (m ∷ ms) h =
    ap (λ (k : Ledger). ledger_of k ms) (after_is l x m h.0)
    ∙ ledger_is (after_call l x m.call) m.framework ms h.1
    ∙ ap (λ (y : Framework). ledger (after_call l x m.call) y (map (λ m. m.call) ms)) (gives x m h.0).framework

lists_are : (tables : Tables) (l : Ledger) (x : Framework) (ms : List Made) → History x ms → ListsOf tables l ms
    → Lists tables l x (map (λ m. m.call) ms)
unfolding Lists
lists_are tables l x [] h t = t
lists_are tables l x (m ∷ ms) h t = (
  λ e. t.0 ((gives x m h.0).refusal ∙ e),
  subst (λ (y : Framework). Lists tables (after_call l x m.call) y (map (λ m. m.call) ms)) (gives x m h.0).framework
      (lists_are tables (after_call l x m.call) m.framework ms h.1
      (subst (λ (k : Ledger). ListsOf tables k ms) (after_is l x m h.0) t.1)),
)

-- THEOREM: over every list of in-place calls after an accepted opening no padding budget is overdrawn. The opening and each call draw
-- from two tapes or from words.
pub no_budget_overdrawn_in_place :
    (tables : Tables) (F blocking : Float) (time : ℕ) (lent : Lent) (ms : List Made)
    → T (fits binary64 F)
    → (opening_on tables F blocking time lent).refusal ≡ 0
    → History (opening_on tables F blocking time lent).framework ms
    → ListsOf tables empty ms
    → packets (ledger_of empty ms) ≤ 2 ^ 53
    → Budgets tables F (ledger_of empty ms)
no_budget_overdrawn_in_place tables F blocking time lent ms f o h t p =
    let x = (opening_on tables F blocking time lent).framework in
    let e = ledger_is empty x ms h in
    subst (Budgets tables F) (sym e)
    (no_budget_overdrawn tables F blocking time lent (map (λ m. m.call) ms) f o (lists_are tables empty x ms h t)
    (subst (λ (l : Ledger). packets l ≤ 2 ^ 53) e p))
