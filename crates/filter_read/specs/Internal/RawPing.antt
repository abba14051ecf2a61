-- A ping whose clauses are stretches of a source, and what reading a filter gives.
use Rattle.std.specs.Prelude.{List, ℕ, Ok}
use Rattle.answers.specs.Try.{Try, ◌>>=◌}
use Rattle.filter.specs.Request.{octets_of}
use Rattle.filter_read.specs.declared.ping.RawPing.{RawPing}
use Rattle.filter_read.specs.Value.{Ping}

abbrev pub ping_at : List ℕ → RawPing → Ping
ping_at source p =
    record {
      dns_domain_lem = octets_of source p.dns_domain;
      user = octets_of source p.«user»;
      aac = p.«aac»;
      domain_sid_lem = octets_of source p.domain_sid;
      domain_guid_lem = octets_of source p.domain_guid;
      version = p.«version»;
    }

abbrev pub tried_ping : List ℕ → Try RawPing → Try Ping
tried_ping s read = read >>= λ p. Ok (ping_at s p)
