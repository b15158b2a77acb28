-- What a store does to a sheet: the lines of each kind stand behind those of the kind before.
use Prim.Native.Nat.{ℕ, ◌+◌, ◌*◌, ◌/◌}
use mathlib.Core.Path.{◌≡◌, sym, ◌∙◌}
use mathlib.Core.List.{List, ◌++◌, append_assoc}
use native.Mathlib.Omega.{arith}
use lib.ListN.{length, drop, length-append}
use Rattle.machine.specs.Constants.{machine_words, state_words, transition_words}
use Rattle.machine.specs.Part.{through, from, written}
use Rattle.cells.specs.Cells.{each}
use Rattle.lines.specs.Lines.{line_bytes, line_of, lines_of}
use Rattle.lines.specs.RoundTrip.Tables.{length-lines}
use Rattle.sheet.specs.Sheet.{machine_kind, state_kind, transition_kind, bytes_of, sheet_of}
use Rattle.sheet.specs.Writer.{over}

module _ (M S T : List ℕ) where
  abbrev m : ℕ
  m = length M / machine_words

  abbrev s : ℕ
  s = length S / state_words

  abbrev t : ℕ
  t = length T / transition_words

  abbrev machines : List ℕ
  machines = each (line_of machine_kind) machine_words m M

  abbrev states : List ℕ
  states = each (line_of state_kind) state_words s S

  abbrev transitions : List ℕ
  transitions = each (line_of transition_kind) transition_words t T

  -- the sheet is as long as its lines
  pub length-sheet : length (sheet_of M S T) ≡ bytes_of m s t
  unfolding sheet_of lines_of
  length-sheet =
      length-append machines (states ++ transitions)
      ∙ omega (
        arith,
        length-append states transitions,
        length-lines machine_kind machine_words M,
        length-lines state_kind state_words S,
        length-lines transition_kind transition_words T,
      )

  -- the lines of each kind are put behind those before
  pub sheeted : (o x y z : List ℕ)
      → x ≡ machines ++ drop (line_bytes machine_words * m) o
      → y ≡ states ++ drop (line_bytes state_words * s) (from x (line_bytes machine_words * m))
      → (let b = line_bytes machine_words * m in
      let r = b + line_bytes state_words * s in
      z ≡ transitions ++ drop (line_bytes transition_words * t) (from (through x b y) r)
      → through (through x b y) r z ≡ over (sheet_of M S T) o)
  unfolding sheet_of lines_of
  sheeted o x y z ex ey ez =
      let b : ℕ = line_bytes machine_words * m in
      let r : ℕ = b + line_bytes state_words * s in
      let a = length-lines machine_kind machine_words M in
      let c = length-lines state_kind state_words S in
      let d = length-lines transition_kind transition_words T in
      let f : length (machines ++ states) ≡ r = length-append machines states ∙ omega arith in
      let e : through x b y ≡ machines ++ states ++ drop r o =
      written machines o x states y b (line_bytes state_words * s) (sym a) (sym c) ex ey in
      let g = written (machines ++ states) o (through x b y) transitions z r (line_bytes transition_words * t) (sym f) (sym d) e ez in
      let l : r + line_bytes transition_words * t ≡ length (sheet_of M S T) = omega (arith, length-sheet) in
      g ∙ rw (append_assoc machines states transitions, l)
