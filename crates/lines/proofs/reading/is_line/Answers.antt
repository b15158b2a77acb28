-- `lines::reading::is_line` meets its contract: the kind, the words and the line feed.
use Rattle.std.proofs.Common.{◌≡◌, true, false, sym, ◌∙◌, refl}
use Rattle.std.proofs.Math.Dec.{eqb}
use Rattle.lines.proofs.Kind.{line_test}
use Rattle.lines.proofs.reading.is_line.Goals as goal
use Rattle.lines.proofs.reading.is_line.Goals.{then-has_kind, else-has_kind}

pub returns-then-good_cells-kind : goal.returns-then-good_cells-kind
returns-then-good_cells-kind c =
    let a = c.args in
    let k = sym c.has_kind.ensures in
    elim c.if-has_kind.branch [
      | then-has_kind w ↦
          (let e : eqb w.good_cells.result a.kind.words ≡ true = sym w.value-is ∙ c.if-good_cells-kind.true in
          rw e at (line_test a.line.now a.kind.number a.kind.words true w.good_cells.result (c.requires.0 ∙ a.kind.sized) (k ∙ w.if-has_kind.true) w.good_cells.ensures))
      | else-has_kind w ↦ cc
    ]

pub returns-else-good_cells-kind : goal.returns-else-good_cells-kind
returns-else-good_cells-kind c =
    let a = c.args in
    let k = sym c.has_kind.ensures in
    elim c.if-has_kind.branch [
      | then-has_kind w ↦
          (let e : eqb w.good_cells.result a.kind.words ≡ false = sym w.value-is ∙ c.if-good_cells-kind.false in
          c.if-good_cells-kind.false ∙ rw e at (line_test a.line.now a.kind.number a.kind.words true w.good_cells.result (c.requires.0 ∙ a.kind.sized) (k ∙ w.if-has_kind.true) w.good_cells.ensures))
      | else-has_kind w ↦
          c.if-good_cells-kind.false ∙ line_test a.line.now a.kind.number a.kind.words false _ (c.requires.0 ∙ a.kind.sized) (k ∙ w.if-has_kind.false) refl
    ]
