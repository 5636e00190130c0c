use Rattle.std.specs.Prelude.{ℕ}
use Rattle.atomic_table.specs.Seated.{TableId}
use Rattle.atomic_table.specs.Table.{Me}
use Rattle.ell_cards.specs.declared.view.Known.{Known}

-- the memory that a seat steps on, its number there, and what it knows
pub record SeatModel : Type 0 where
  pub table_id : TableId
  pub id : ℕ
  pub me : Me (Unit {0}) Known
