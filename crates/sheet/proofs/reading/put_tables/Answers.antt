-- `sheet::reading::put_tables` meets its contract: each table's lines stand where those of the kinds before end.
use Rattle.sheet.proofs.Formed.{states_at_lem, transitions_at_lem}
use Rattle.sheet.proofs.reading.put_tables.Goals as goal

pub returns : goal.returns
returns c =
    let a = c.args in (
      c.put_rows.ensures,
      rw (states_at_lem a.sheet.now a.rows c.requires.0) at c.put_rows-2.ensures,
      rw (transitions_at_lem a.sheet.now a.rows c.requires.0) at c.put_rows-3.ensures,
    )
