use Rattle.table_layout.proofs.field.keeps.Goals as goal

pub returns-in-Dns : goal.returns-in-Dns
returns-in-Dns c = rw c.in-Dns.is c.is_dns_name.ensures

pub returns-in-Netbios : goal.returns-in-Netbios
returns-in-Netbios c = rw c.in-Netbios.is c.is_netbios_name.ensures

pub returns-in-NetbiosOrEmpty : goal.returns-in-NetbiosOrEmpty
returns-in-NetbiosOrEmpty c = rw (c.in-NetbiosOrEmpty.is, c.is_netbios_name-in-NetbiosOrEmpty.ensures)

pub returns-in-Site : goal.returns-in-Site
returns-in-Site c = rw c.in-Site.is c.is_site_name.ensures

pub returns-in-Account : goal.returns-in-Account
returns-in-Account c = rw c.in-Account.is c.is_account_name.ensures
