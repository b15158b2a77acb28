-- The call that comes next: its answer, its rows and what it prints, from what the calls in the code answered.
use Prim.Native.Nat.{ℕ, ◌+◌, ◌*◌, ◌-◌, ◌≤◌, min}
use mathlib.Core.Path.{◌≡◌, sym, ◌∙◌}
use mathlib.Core.List.{List, ◌++◌}
use native.Mathlib.Omega.{arith}
use lib.Ieee.{Float}
use lib.ListN.{length, take, drop, replicate, length-drop}
use lib.Seq.{take_all}
use Rattle.machine.specs.Constants.{machine_max, row_words}
use Rattle.text.specs.Printed.{call_text}
use Rattle.text.specs.Words.{chances, values}
use Rattle.text.proofs.Lines.{length-call_text}
use Rattle.stream.specs.Stream.{call_of, machine_table, state_table, transition_table, chance_words, value_words, events_of}
use Rattle.stream.specs.declared.Call.{Call}
use Rattle.machine.specs.Source.{Source, tapes}
use Rattle.machine.specs.declared.source.Place.{Place}
use Rattle.steps.specs.Framework.{batch}
use Rattle.steps.specs.Events.{Tables}
use Rattle.steps.specs.declared.Framework.{Framework}
use Rattle.steps.specs.declared.Answer.{Answer}
use Rattle.machine.specs.Tables.{tables}
use Rattle.run.specs.declared.Standing.{Standing}
use Rattle.run.specs.Run.{stand, batch_at, stands_after, printed}
use Rattle.steps.proofs.Printable as printable

-- a tape from a place on
pub tape : (ts : List Float) (at : ℕ) → take (length ts - at) (drop at ts) ≡ drop at ts
tape ts at = take_all (length ts - at) (drop at ts) (omega (arith, length-drop at ts))

module _ (ws : List ℕ) (s : Standing) where
  pub answered : (call : Call) (ms ss ts ev : List ℕ) (ch vs : List Float) → call ≡ call_of ws s.next
      → ms ≡ machine_table ws
      → ss ≡ state_table ws
      → ts ≡ transition_table ws
      → ev ≡ events_of ws s.next
      → ch ≡ chances (chance_words ws)
      → vs ≡ values (value_words ws)
      → batch s.framework (tables ms ss ts) call.time ev
      (tapes (take (length ch - s.chance) (drop s.chance ch)) (take (length vs - s.value) (drop s.value vs))) (replicate (machine_max * row_words) 0)
      ≡ batch_at ws s
  unfolding batch_at
  answered call ms ss ts ev ch vs is m-is s-is t-is ev-is ch-is vs-is =
      rw (tape ch s.chance, tape vs s.value, is, m-is, s-is, t-is, ev-is, ch-is, vs-is)

  pub stood : (a : Answer) (call : Call) (ch vs : List Float) → a ≡ (batch_at ws s).answer → call ≡ call_of ws s.next
      → ch ≡ chances (chance_words ws)
      → vs ≡ values (value_words ws)
      → stand a.framework call.next (min (s.chance + a.chance_used) (length ch)) (min (s.value + a.value_used) (length vs))
      ≡ stands_after ws s
  unfolding stands_after
  stood a call ch vs e is ch-is vs-is = rw (e, is, ch-is, vs-is)

  pub prints : (i : ℕ) (a : Answer) (out line o : List ℕ) (n : ℕ) → a ≡ (batch_at ws s).answer → out ≡ (batch_at ws s).out
      → n ≡ 15 + 41 * a.actions
      → line ≡ call_text i a.refusal a.actions out ++ drop n o
      → (line ≡ printed ws i s ++ drop n o) × (n ≡ length (printed ws i s))
  unfolding printed
  prints i a out line o n e f q l = (
    l ∙ rw (e, f),
    q ∙ rw e (sym (length-call_text i (batch_at ws s).answer.refusal (batch_at ws s).answer.actions (batch_at ws s).out)),
  )

-- an answer has at most a row for each machine
pub rows_few : (a : Answer) (fw : Framework) (T : Tables) (time : ℕ) (es : List ℕ) (D : Source Place) (out : List ℕ)
    → a ≡ (batch fw T time es D out).answer → a.actions ≤ machine_max
rows_few a fw T time es D out e = rw e (printable.rows_few fw T time es D out)
