-- The rules of text fields, each as a test of the text.
use Rattle.std.specs.Prelude.{Bool, true, false, List, ℕ}
use Rattle.octets.specs.NameRule.{is_dns_name, is_netbios_name, is_site_name}
use Rattle.unicode_text.specs.UserName.{is_account_name}
use Rattle.table_layout.specs.declared.field.Rule.{Rule}
use Rattle.table_layout.specs.declared.field.Rule.TheVariants.{Dns, Netbios, NetbiosOrEmpty, Site, Account}
use Rattle.table_layout.specs.Layout.{is_context_netbios}

abbrev pub rule_of : Rule → List ℕ → Bool
rule_of Dns s = is_dns_name s
rule_of Netbios s = is_netbios_name s
rule_of NetbiosOrEmpty s = is_context_netbios true s
rule_of Site s = is_site_name s
rule_of Account s = is_account_name s

-- the rule of a context's NetBIOS name
abbrev pub netbios_rule : Bool → Rule
netbios_rule true = NetbiosOrEmpty
netbios_rule false = Netbios
