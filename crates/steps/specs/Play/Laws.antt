-- The draws that a source gives on its way down a tree of questions, worked out (`worked_out`), and which sources are honest. Definitions; what holds
-- of them is in proofs/Play/Laws.antt.
use Rattle.std.specs.Prelude.{Bool, true, List, [], ◌∷◌, ◌≡◌, Float}
use Rattle.machine.specs.Source.{Drawn, no, got, Source, fit_chance, fit_uniform}
use Rattle.machine.specs.declared.source.Place.{Place}
use Rattle.steps.specs.Play.{Play, ends, attempts, ask_chance, ask_uniform, ask_outside, Bounds}

-- ---- The draws that a source gives on its way down a tree: the tapes worked out, chances and values, each in the order of asking.
pub record Given : Type 0 where
  pub chances : List Float
  pub values : List Float

abbrev pub nothing : Given
nothing = record { chances = []; values = [] }

abbrev pub chance_given : Float → Given → Given
chance_given c g = record { chances = c ∷ g.chances; values = g.values }

abbrev pub value_given : Float → Given → Given
value_given v g = record { chances = g.chances; values = v ∷ g.values }

abbrev pub given_by : {S : Type 0} → (Float → Given → Given) → (Float → S → Given) → Drawn S Float → Given
given_by more f (no n s) = nothing
given_by more f (got c s) = more c (f c s)

abbrev pub worked_out : {S A : Type 0} → Source S → Play A → S → Given
worked_out D (ends a) s = nothing
worked_out D (attempts e m t) s = worked_out D t (D.attempt e m s)
worked_out D (ask_chance k) s = given_by chance_given (λ c s. worked_out D (k c) s) (D.chance s)
worked_out D (ask_uniform low high k) s = given_by value_given (λ c s. worked_out D (k c) s) (D.values.uniform low high s)
worked_out D (ask_outside k) s = given_by value_given (λ c s. worked_out D (k c) s) (D.values.outside s)

-- ---- a source whose draws are fit, Uniform values where the bounds are valid, and which refuses as 16 alone
abbrev pub Fit : {S : Type 0} → (Float → Bool) → Drawn S Float → Type 0
Fit fit (no n s) = n ≡ 16
Fit fit (got v s) = fit v ≡ true

pub record Honest {S : Type 0} (D : Source S) : Type 0 where
  pub chance : (s : S) → Fit fit_chance (D.chance s)
  pub uniform : (low high : Float) → Bounds low high → (s : S) → Fit (fit_uniform low high) (D.values.uniform low high s)

-- the same answer, at another place
abbrev pub retold : {S A : Type 0} → Drawn S A → Place → Drawn Place A
retold (no n s) at = no n at
retold (got a s) at = got a at
