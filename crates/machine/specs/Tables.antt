-- The tables that a call is lent.
use Rattle.std.specs.Prelude.{ℕ, List}
use Rattle.machine.specs.declared.tables.Tables as Lent

pub record Tables : Type 0 where
  pub machines : List ℕ
  pub states : List ℕ
  pub transitions : List ℕ

abbrev pub tables : List ℕ → List ℕ → List ℕ → Tables
tables machines states transitions = record {
  machines = machines;
  states = states;
  transitions = transitions;
}

-- what stands in the lent memory
abbrev pub lent_tables : Lent.Tables → Tables
lent_tables t = tables t.machines.now t.states.now t.transitions.now
