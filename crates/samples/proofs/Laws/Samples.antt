-- P1 to P12 by computation: every definition that the table's rows come to is unfolded.
use mathlib.Core.Path.{refl}
use mathlib.Core.List.{flat_map}
use Rattle.filter_position.specs.Filter.{element_at, equality, one, siblings, and_of, clauses_of}
use Rattle.filter_read.specs.Taken.{is_named, request_of, request_in}
use Rattle.filter_read.specs.Taken.{has_unknown, has_duplicate}
use Rattle.filter_read.specs.Value.{wrong_value_lem, version_asked, ping_in, ping_from}
use Rattle.filter_octets.specs.Octets.{length_octets, element}
use Rattle.names.specs.Name.{pointer_to, literal_label, write_labels, write_name, write_names}
use Rattle.names.specs.Walk.{look_at, walk_from, walk}
use Rattle.octets.specs.Fold.{fold_pairs, fold_from, fold_table_lem, fold_point, fold_points}
use Rattle.octets.specs.Label.{parts, labels, joined}
use Rattle.octets.specs.Lists.{all, any, first, keep, unique, pieces}
use Rattle.octets.specs.NameRule.{is_dns_name, is_plain_name}
use Rattle.unicode_text.specs.UserName.{is_user_name, is_account_name}
use Rattle.octets.specs.Number.{little, big, little_octets, big_octets, has}
use Rattle.octets.specs.Sid.{is_sid}
use Rattle.octets.specs.Text.{same, lower}
use Rattle.unicode_text.specs.Utf16.{point_octets, utf16}
use Rattle.unicode_text.specs.Utf8.{lead, follow, points_from, is_utf8}
use Rattle.reader.specs.Field.{read_octets, read_stretch, read_fixed}
use Rattle.reader.specs.Name.{read_name_from, read_name}
use Rattle.reader.specs.Reader.{read_opcode, read_number, read_names, read_tokens, read_address, has_next_site, read_last, read_ex}
use Rattle.reply.specs.Reply.{text16, ending, opening, nt40_octets, response_head, response_octets, ex_head, ex_octets}
use Rattle.table.specs.Address.{network_of, address_number, is_prefix_only, share_prefix}
use Rattle.table_check.specs.Check.{grown, check_of_lem, good_check}
use Rattle.table_layout.specs.Field.{last_text, zeros, text_field}
use Rattle.table_layout.specs.Layout.{flags_layout, records_layout, server_layout, forest_layout, context_layout, account_layout, site_layout, subnet_layout, body_layout, block_layout, layouts_from}
use Rattle.table.specs.Server.{server_of}
use Rattle.table.specs.Forest.{forest_of}
use Rattle.table.specs.Context.{context_of}
use Rattle.table.specs.Account.{account_of}
use Rattle.table.specs.Site.{site_of}
use Rattle.table.specs.SameName.{same_dns_name}
use Rattle.table.specs.Subnet.{same_network, subnet_of}
use Rattle.account_names.specs.AccountName.{folded_text, same_account_name}
use Rattle.table.specs.Block.{blocks_of}
use Rattle.table.specs.Table.{bodies, records_of, table_of}
use Rattle.table_find.specs.Find.{in_subnet, name_compared, is_named_by, holds_sid}
use Rattle.table_lookup.specs.Lookup.{nearest, context_by_guid, context_by_dns_name, context_by_sid, context_by_number, default_context_lem, account_by_name, site_by_number, subnet_for, client_site_lem}
use Rattle.table_find.specs.LogOn.{may_log_on}
use Rattle.table_whole.specs.Judgement.{good_length, table_in}
use Rattle.table_whole.specs.Whole.{contexts_unique, accounts_unique, subnets_unique, sites_unique, has_context, has_site, refers_rightly, good_whole}
use Rattle.locator.specs.Answer.{wrong_user, reply_to, answer_over, answer_by}
use Rattle.choose.specs.Choose.{is_known, is_user_unknown, form_of, is_held_back, opcode_of, names_application, ex_flags, response_flags, next_site_lem, reply_for}
use Rattle.choose.specs.Judge.{context_used, context_in}
use Rattle.samples.specs.Samples.{checked, block, example, corp, CORP, DC1, dc1, HQ, ann, guid, ipv4, image, filter, version, six, caller, pings, summary, refusal, P1, asks, for_user, for_domain, samples, SamplesHold}

pub samples_hold : SamplesHold
unfolding samples checked block example corp CORP DC1 dc1 HQ ann guid ipv4 image filter version six caller pings summary refusal P1 asks for_user for_domain element_at equality one siblings and_of clauses_of is_named has_unknown has_duplicate request_of request_in wrong_value_lem version_asked ping_in length_octets element pointer_to literal_label write_labels write_name write_names look_at walk_from walk parts labels joined all any first keep unique pieces is_dns_name is_plain_name is_user_name is_account_name little big little_octets big_octets has is_sid same lower point_octets utf16 lead follow points_from is_utf8 read_octets read_stretch read_fixed read_name_from read_name read_names read_opcode read_number read_tokens read_address has_next_site read_last read_ex text16 ending opening nt40_octets response_head response_octets ex_head ex_octets grown check_of_lem good_check zeros text_field good_length table_in server_layout forest_layout context_layout account_layout site_layout subnet_layout flags_layout last_text records_layout body_layout block_layout layouts_from server_of forest_of context_of account_of site_of subnet_of blocks_of bodies records_of table_of fold_pairs fold_from fold_table_lem fold_point fold_points folded_text same_account_name same_dns_name contexts_unique accounts_unique same_network subnets_unique sites_unique has_context has_site refers_rightly good_whole ping_from answer_over answer_by wrong_user reply_to may_log_on is_known is_user_unknown form_of is_held_back opcode_of names_application ex_flags response_flags next_site_lem reply_for context_by_guid name_compared is_named_by context_by_dns_name holds_sid context_by_sid context_by_number default_context_lem account_by_name site_by_number address_number network_of is_prefix_only share_prefix in_subnet nearest subnet_for client_site_lem context_used context_in flat_map
samples_hold = refl
