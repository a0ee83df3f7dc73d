-- The texts of the places that hold pointers.
use Rattle.std.specs.Prelude.{ℕ, List}
use Rattle.mm_sweep.specs.{declared.holding.Holder.Holder, Holders.{ip_place, register_place, cell_place}}
use Rattle.mm_sweep.specs.declared.holding.Holder.TheVariants as holders

-- the beginning of the line of a place
abbrev pub holder_text : Holder → List ℕ
holder_text (holders.Ip slot) = ip_place slot
holder_text (holders.Register slot register) = register_place slot register
holder_text (holders.Cell address) = cell_place address
