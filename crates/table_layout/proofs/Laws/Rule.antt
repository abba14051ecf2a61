-- The field of a context's NetBIOS name, by its rule.
use mathlib.Core.Path.{◌≡◌, refl}
use mathlib.Core.Bool.{Bool, true, false}
use mathlib.Core.List.{List}
use Prim.Native.Nat.{ℕ}
use Rattle.table.specs.declared.field.TextField.{TextField}
use Rattle.table_layout.specs.Field.{text_field}
use Rattle.table_layout.specs.Layout.{is_context_netbios}
use Rattle.table_layout.specs.Internal.Rule.{rule_of, netbios_rule}

pub netbios-field : (application : Bool) (s : List ℕ) (field : TextField) → text_field (rule_of (netbios_rule application)) s field ≡ text_field (is_context_netbios application) s field
netbios-field true s field = refl
netbios-field false s field = refl
