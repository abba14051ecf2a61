-- Document 01, "The table image", kind 2, at block 1: the forest's DNS name.
use Rattle.std.specs.Prelude.{List, ℕ}
use Rattle.octets.specs.NameRule.{dns_name_most}
use Rattle.table.specs.{declared.BlockPlace.BlockPlace, declared.field.TextField.TextField, Countings.block_place, Field.text_at}

abbrev pub forest_kind : ℕ
forest_kind = 2

abbrev pub forest_place : BlockPlace
forest_place = block_place 1

abbrev pub forest_name : TextField
forest_name = record { offset = 0; room = dns_name_most }

unfoldable pub forest_of : List ℕ → List ℕ
forest_of b = text_at b forest_name
