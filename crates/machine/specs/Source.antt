-- What the steps draw from. A source has a state, and three things can be asked of it: a chance, a Uniform value, a value drawn
-- outside; each answer or refusal comes with the state after it. An attempt at a transition is told to it, for those that count.
-- The steps run at the state `Place`, which the code has; laws about them use others.
use Rattle.std.specs.Prelude.{ℕ, ◌+◌, ◌<◌, List, Bool, true, false, cond, ◌&&◌, length, get_or, ltb, Float, Result, Ok, Err}
use Rattle.std.proofs.Common.{lit<}
use Rattle.std.specs.Float.{nan, binary32}
use Rattle.std.specs.Float.Ieee.{of_bits, lt, le}
use Rattle.refusal.specs.Refusal.{number}
use Rattle.machine.specs.declared.source.Place.{Place}
use Rattle.machine.specs.declared.source.Draw.{Draw}

pub data Drawn (S A : Type 0) : Type 0 where
  no : ℕ → S → Drawn S A
  got : A → S → Drawn S A

pub record Values (S : Type 0) : Type 0 where
  pub uniform : Float → Float → S → Drawn S Float
  pub outside : S → Drawn S Float

pub record Source (S : Type 0) : Type 0 where
  -- an event, and the machine that attempts a transition by it
  pub attempt : ℕ → ℕ → S → S
  pub chance : S → Drawn S Float
  pub values : Values S

-- ---- as the code answers it: what was drawn and where the source goes on, or the refusal
abbrev pub draw : {A : Type 0} → A → Place → Draw A
draw value at = record { value = value; at = at }

abbrev pub draw_of : {A : Type 0} → Drawn Place A → Result (Draw A) ℕ
draw_of (no r at) = Err r
draw_of (got v at) = Ok (draw v at)

unfoldable pub chance_draw : (Place → Drawn Place Float) → Place → Result (Draw Float) ℕ
chance_draw chance at = draw_of (chance at)

-- A source tells why it refuses: by a number that is not 0, which means accepted.
abbrev pub Tells : {S A : Type 0} → Drawn S A → Type 0
Tells (no r s) = 0 < r
Tells (got a s) = Unit

pub record Telling {S : Type 0} (D : Source S) : Type 0 where
  pub chance : (s : S) → Tells (D.chance s)
  pub uniform : (low high : Float) (s : S) → Tells (D.values.uniform low high s)
  pub outside : (s : S) → Tells (D.values.outside s)

-- ---- what is fit
abbrev pub fit_chance : Float → Bool
fit_chance c = le (of_bits binary32 0) c && lt c (of_bits binary32 0x3f80_0000)

abbrev pub fit_uniform : Float → Float → Float → Bool
fit_uniform low high v = le low v && lt v high

abbrev pub any_value : Float → Bool
any_value v = true

-- ---- two tapes (document 01): 16 past a tape's end, 17 for a draw that is not fit
abbrev pub place : ℕ → ℕ → Place
place c v = record { chance_at = c; value_at = v }

abbrev pub on_tape : (Float → Bool) → List Float → ℕ → Place → Place → Drawn Place Float
on_tape fit tape at after here =
    cond (ltb at (length tape))
    (cond (fit (get_or tape at nan)) (got (get_or tape at nan) after) (no 17 here))
    (no 16 here)

abbrev pub next_chance : List Float → Place → Drawn Place Float
next_chance chances at =
    on_tape fit_chance chances at.chance_at (place (at.chance_at + 1) at.value_at) at

abbrev pub next_value : (Float → Bool) → List Float → Place → Drawn Place Float
next_value fit values at = on_tape fit values at.value_at (place at.chance_at (at.value_at + 1)) at

abbrev pub tape_values : List Float → Values Place
tape_values values = record {
  uniform = λ low high. next_value (fit_uniform low high) values;
  outside = next_value any_value values;
}

abbrev pub tapes : List Float → List Float → Source Place
tapes chances values = record {
  attempt = λ event machine at. at;
  chance = next_chance chances;
  values = tape_values values;
}

on_tape_tells : (fit : Float → Bool) (tape : List Float) (at : ℕ) (after here : Place) → Tells (on_tape fit tape at after here)
on_tape_tells fit tape at after here = go (ltb at (length tape)) (fit (get_or tape at nan))
  where
    go : (a b : Bool) → Tells (cond a (cond b (got (get_or tape at nan) after) (no 17 here)) (no 16 here))
    go true true = tt
    go true false = lit< tt
    go false b = lit< tt

pub tapes_tell : (chances values : List Float) → Telling (tapes chances values)
tapes_tell chances values = record {
  chance = λ s. on_tape_tells fit_chance chances s.chance_at (place (s.chance_at + 1) s.value_at) s;
  uniform = λ low high s.
      on_tape_tells (fit_uniform low high) values s.value_at (place s.chance_at (s.value_at + 1)) s;
  outside = λ s. on_tape_tells any_value values s.value_at (place s.chance_at (s.value_at + 1)) s;
}
