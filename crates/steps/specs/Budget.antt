-- Demand 3: no padding budget is overdrawn. This file is the statement; the proof is in the files of
-- Budget/, over the laws of Runs, Draws, Walk, Machines and Rows, and ends with `Theorem`. What stands
-- in quotes is document 01's paragraph on what demand 3 counts, whole and in its order.
--
-- "Demand 3 counts the events and returned rows of its list's accepted batches, never the framework's
-- own numbers."
pub mod Sums
use Rattle.std.specs.Prelude.{ℕ, zero, suc, ◌+◌, ◌-◌, ◌*◌, ◌^◌, ◌≤◌, ◌<◌, List, [], ◌∷◌, Bool, true, false, cond, ◌&&◌, ◌||◌, ◌⊎◌, ◌≡◌, get_or, T, eqb, Float}
use Rattle.std.specs.Float.{binary64}
use Rattle.std.specs.Float.Ieee.{of_bits, lt, fits}
use Rattle.numbers.specs.Fraction.{in1074}
use Rattle.machine.specs.Constants.{allowed_padding_packets, max_padding_frac, send_padding}
use Rattle.machine.specs.Event.{normal_sent, padding_sent}
use Rattle.numbers.specs.Finite.{zero_f}
use Rattle.steps.specs.Events.{Tables, machine_word}
use Rattle.steps.specs.Framework.{Batch, rows_in}
use Rattle.steps.specs.Words.{Lent, opening_on, batch_on}
use Rattle.steps.specs.declared.Framework.{Framework}

-- ---- a batch of a list: what the sender lends. It draws from two tapes or from words (`Lent`), each batch
-- of a list from either.
pub record Call : Type 0 where
  pub tables : Tables
  pub time : ℕ
  pub events : List ℕ
  pub lent : Lent
  pub out : List ℕ

-- its answer and output, its refusal or 0, and the framework that it returns, where it gets the framework x
abbrev pub answer_of : Framework → Call → Batch
answer_of x c = batch_on x c.tables c.time c.events c.lent c.out

abbrev pub refusal_of : Framework → Call → ℕ
refusal_of x c = (answer_of x c).answer.refusal

abbrev pub framework_of : Framework → Call → Framework
framework_of x c = (answer_of x c).answer.framework

-- ---- What is counted. `own i` is machine i's P. `held i` says whether machine i holds a SendPadding;
-- within a batch, one that it held when the batch began and has not spent in it.
pub record Ledger : Type 0 where
  pub normal : ℕ
  pub padding : ℕ
  pub own : ℕ → ℕ
  pub held : ℕ → Bool

-- "The opening starts at 0 with nothing held."
abbrev pub empty : Ledger
empty = record { normal = 0; padding = 0; own = λ i. 0; held = λ i. false }

-- one more at this machine, and nothing held there
abbrev pub plus : (ℕ → ℕ) → ℕ → ℕ → ℕ
plus own machine i = cond (eqb machine i) (suc (own i)) (own i)

abbrev pub without : (ℕ → Bool) → ℕ → ℕ → Bool
without held machine i = cond (eqb machine i) false (held i)

-- "NormalSent adds a normal packet. PaddingSent adds 1 to all padding and to its machine's P, and
-- spends what that machine held when the batch began: nothing for an unknown machine, or for the same
-- one again in that batch."
abbrev pub count : Ledger → ℕ → ℕ → Ledger
count l kind machine =
    cond (eqb kind normal_sent)
    (record { normal = suc l.normal; padding = l.padding; own = l.own; held = l.held })
    (cond (eqb kind padding_sent)
    (record { normal = l.normal; padding = suc l.padding; own = plus l.own machine; held = without l.held machine })
    l)

-- the lent events: pairs of words, kind and machine
abbrev pub counted : Ledger → List ℕ → Ledger
counted l [] = l
counted l (kind ∷ []) = l
counted l (kind ∷ machine ∷ es) = counted (count l kind machine) es

-- "At the batch's end each machine with a returned SendPadding holds one, never two; one not spent
-- stays." The returned rows are the first rows, of six words each, that the output holds: machine,
-- kind, ..
abbrev pub returns_padding : List ℕ → ℕ → ℕ → Bool
returns_padding out zero i = false
returns_padding out (suc n) i =
    returns_padding out n i || (eqb (get_or out (n * 6) 0) i && eqb (get_or out (n * 6 + 1) 0) send_padding)

abbrev pub returned : Ledger → (ℕ → Bool) → Ledger
returned l sends = record { normal = l.normal; padding = l.padding; own = l.own; held = λ i. l.held i || sends i }

-- an accepted batch counts, a refused one does not
abbrev pub after_call : Ledger → Framework → Call → Ledger
after_call l x c =
    cond (eqb (refusal_of x c) 0)
    (returned (counted l c.events) (returns_padding (answer_of x c).out (answer_of x c).answer.actions))
    l

-- each batch gets the framework that the last one returned
unfoldable pub ledger : Ledger → Framework → List Call → Ledger
ledger l x [] = l
ledger l x (c ∷ cs) = ledger (after_call l x c) (framework_of x c) cs

-- "All packets are padding and normal together."
abbrev pub packets : Ledger → ℕ
packets l = l.padding + l.normal

-- ---- The lists meant (demand 3): "each accepted one is lent the opening's tables; each PaddingSent in
-- an accepted one spends the SendPadding its machine held when that batch began". Of a refused one
-- nothing is asked.
abbrev pub Spends : Ledger → List ℕ → Type 0
Spends l [] = Unit
Spends l (kind ∷ []) = Unit
Spends l (kind ∷ machine ∷ es) = (kind ≡ padding_sent → T (l.held machine)) × Spends (count l kind machine) es

unfoldable pub Lists : Tables → Ledger → Framework → List Call → Type 0
Lists tables l x [] = Unit
Lists tables l x (c ∷ cs) =
    (refusal_of x c ≡ 0 → (c.tables ≡ tables) × Spends l c.events)
    × Lists tables (after_call l x c) (framework_of x c) cs

-- ---- the budgets (demand 3): "a fraction is its f64 as a whole number of 2^-1074ths, and both sides
-- are compared in these"
-- machine i's A and f
abbrev pub allowance : Tables → ℕ → ℕ
allowance tables i = machine_word tables.machines i allowed_padding_packets

abbrev pub fraction : Tables → ℕ → Float
fraction tables i = of_bits binary64 (machine_word tables.machines i max_padding_frac)

-- over the first m machines
abbrev pub sum : ℕ → (ℕ → ℕ) → ℕ
sum zero h = 0
sum (suc m) h = sum m h + h m

-- Machine: "either P is at most A + 2, or P - 2 is below f × T". Framework: "padding is at most F × all
-- packets + the sum of allowances + 4 × M".
pub record Budgets (tables : Tables) (F : Float) (l : Ledger) : Type 0 where
  pub machine : (i : ℕ) → i < rows_in tables.machines → lt zero_f (fraction tables i) ≡ true
      → (l.own i ≤ allowance tables i + 2)
      ⊎ ((l.own i - 2) * 2 ^ 1074 < in1074 (fraction tables i) * (l.own i + l.normal))
  pub framework : lt zero_f F ≡ true
      → l.padding * 2 ^ 1074
      ≤ in1074 F * packets l
      + (sum (rows_in tables.machines) (allowance tables) + 4 * rows_in tables.machines) * 2 ^ 1074

-- ---- "It is a single claim about the list, not one for each call." The opening: tables, both
-- fractions, of which F is the padding fraction and an f64, time, and two tapes or words, as each batch.
abbrev pub NoBudgetOverdrawn : Type 0
NoBudgetOverdrawn =
    (tables : Tables) (F blocking : Float) (time : ℕ) (lent : Lent) (cs : List Call)
    → T (fits binary64 F)
    → (opening_on tables F blocking time lent).refusal ≡ 0
    → Lists tables empty (opening_on tables F blocking time lent).framework cs
    → packets (ledger empty (opening_on tables F blocking time lent).framework cs) ≤ 2 ^ 53
    → Budgets tables F (ledger empty (opening_on tables F blocking time lent).framework cs)
