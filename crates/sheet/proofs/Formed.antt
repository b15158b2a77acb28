-- The three counts of a sheet, part by part.
use Prim.Native.Nat.{ℕ, ◌+◌, ◌-◌, ◌*◌, ◌≤◌}
use mathlib.Core.Path.{◌≡◌, refl, sym, ap, ◌∙◌}
use mathlib.Core.Bool.{Bool, true, false}
use mathlib.Core.List.{List}
use native.Mathlib.Omega.{arith}
use lib.Dec.{eqb}
use lib.ListN.{length, drop, length-drop}
use lib.Seq.{drop-drop}
use borrow.Author.Tests.{eqb-true, eqb-false, eq-eqb, ne_eqb}
use Rattle.machine.specs.Constants.{machine_words, state_words, transition_words}
use Rattle.machine.specs.Part.{from}
use Rattle.lines.specs.Lines.{line_bytes, lines, behind}
use Rattle.sheet.specs.Sheet.{machine_kind, state_kind, transition_kind}
use Rattle.sheet.specs.Reader.{machine_lines, state_lines, transition_lines, behind_machines, behind_states, behind_transitions, Form, rows_in, form_of}
use Rattle.sheet.specs.declared.reading.Rows.{Rows}
use Rattle.sheet.specs.Steps.{judged}
use Rattle.std.specs.Prelude.{Ok, Err}
use Rattle.refusal.specs.declared.Refusal.TheVariants as R
use Rattle.lines.proofs.Kind.{to_end}

-- nothing is left where the parts are as long as the whole
left_none : (len k : ℕ) → k ≤ len → eqb len k ≡ eqb (len - k) 0
left_none len k h = by-same (eqb len k) refl
  where
    by-same : (b : Bool) → eqb len k ≡ b → b ≡ eqb (len - k) 0
    by-same true e = sym (eq-eqb (len - k) 0 (omega (arith, eqb-true len k e)))
    by-same false e = sym (ne_eqb (len - k) 0 (λ z. eqb-false len k e (omega (arith, z))))

-- the three counts, one behind the other
module _ (sheet : List ℕ) (m s t : ℕ) (em : m ≡ lines machine_kind machine_words sheet) where
  abbrev A : List ℕ
  A = from sheet (line_bytes machine_words * m)

  abbrev C : List ℕ
  C = from A (line_bytes state_words * s)

  abbrev k : ℕ
  k = line_bytes transition_words * t

  module _ (es : s ≡ lines state_kind state_words A) (et : t ≡ lines transition_kind transition_words C) (h : k ≤ length C) where
    formed : ◌≡◌ {A = Form} (record { machines = m; states = s; transitions = t; whole = eqb (length C) k }) (form_of sheet)
    unfolding form_of machine_lines state_lines transition_lines behind_machines behind_states behind_transitions behind
    formed =
        let ea : A ≡ behind_machines sheet = to_end sheet (line_bytes machine_words * m) ∙ rw em in
        let fs : s ≡ state_lines sheet = rw ea at es in
        let ec : C ≡ behind_states sheet = to_end A (line_bytes state_words * s) ∙ rw (ea, fs) in
        let ft : t ≡ transition_lines sheet = rw ec at et in
        let d : drop k C ≡ behind_transitions sheet = rw (ec, ft) in
        let w : eqb (length C) k ≡ eqb (length (behind_transitions sheet)) 0 =
        left_none (length C) k h ∙ ap (λ (n : ℕ). eqb n 0) (sym (length-drop k C) ∙ ap length d) in
        λ i. record { machines = em i; states = fs i; transitions = ft i; whole = w i }

    -- they are all of the sheet, or something else stands behind them
    pub all_lines : length C ≡ k → Ok (record { machines = m; states = s; transitions = t }) ≡ judged sheet
    unfolding judged
    all_lines e = rw (← formed, eq-eqb (length C) k e)

    pub more_behind : (length C ≡ k → ⊥) → Err R.BadLine ≡ judged sheet
    unfolding judged
    more_behind n = rw (← formed, ne_eqb (length C) k n)

-- the lines lie inside
pub formed_inside : (sheet : List ℕ) (m s t : ℕ) → line_bytes machine_words * m ≤ length sheet
    → line_bytes state_words * s ≤ length (from sheet (line_bytes machine_words * m))
    → line_bytes transition_words * t ≤ length (from (from sheet (line_bytes machine_words * m)) (line_bytes state_words * s))
    → line_bytes machine_words * m + (line_bytes state_words * s + line_bytes transition_words * t) ≤ length sheet
formed_inside sheet m s t a b c =
    let A : List ℕ = from sheet (line_bytes machine_words * m) in
    let f : length A ≡ length sheet - line_bytes machine_words * m =
    ap length (to_end sheet (line_bytes machine_words * m)) ∙ length-drop (line_bytes machine_words * m) sheet in
    let g : length (from A (line_bytes state_words * s)) ≡ length A - line_bytes state_words * s =
    ap length (to_end A (line_bytes state_words * s)) ∙ length-drop (line_bytes state_words * s) A in
    omega arith

-- ---- where the lines of each kind begin

module _ (sheet : List ℕ) (rows : Rows) (is : rows ≡ rows_in (form_of sheet)) where
  machine-lines : rows.machines ≡ machine_lines sheet
  unfolding form_of
  machine-lines = ap (λ (x : Rows). x.machines) is

  state-lines : rows.states ≡ state_lines sheet
  unfolding form_of
  state-lines = ap (λ (x : Rows). x.states) is

  pub states_at_lem : from sheet (line_bytes machine_words * rows.machines) ≡ behind_machines sheet
  unfolding behind_machines behind
  states_at_lem =
      to_end sheet (line_bytes machine_words * rows.machines)
      ∙ ap (λ (n : ℕ). drop (line_bytes machine_words * n) sheet) machine-lines

  pub transitions_at_lem :
      from sheet (line_bytes machine_words * rows.machines + line_bytes state_words * rows.states) ≡ behind_states sheet
  unfolding behind_states behind_machines behind
  transitions_at_lem =
      to_end sheet (line_bytes machine_words * rows.machines + line_bytes state_words * rows.states)
      ∙ sym (drop-drop (line_bytes state_words * rows.states) (line_bytes machine_words * rows.machines) sheet)
      ∙ rw (machine-lines, state-lines)
