-- The octets of a RESPONSE in the order of the reader's fields, with its names at their places.
use Rattle.std.proofs.Common.{Ok}
use mathlib.Core.Path.{◌≡◌, refl, ap, ◌∙◌}
use mathlib.Core.List.{List, [], ◌++◌, append_assoc}
use Prim.Native.Nat.{ℕ, ◌+◌, ◌≤◌}
use native.Mathlib.Omega.{arith}
use lib.ListN.{length, length-append, length-replicate}
use Rattle.answers.specs.declared.Form.TheVariants.{Response}
use Rattle.answers.specs.Wire.{response_version, NullGuid, Lm20Token}
use Rattle.names.specs.Name.{write_names}
use Rattle.names.proofs.Laws.Name.{sizes, names-short}
use Rattle.octets.specs.Label.{labels}
use Rattle.octets.proofs.Laws.Label.{Plain, size}
use Rattle.octets.proofs.Laws.Lists.{Every}
use Rattle.octets.specs.Number.{little_octets}
use Rattle.octets.proofs.Laws.Number.{length-little}
use Rattle.octets.specs.Lists.{cut}
use Rattle.octets.specs.Sid.{guid_size, ipv4_size}
use Rattle.reader.specs.Reader as reader
use Rattle.reader.proofs.Laws.Field.{Left, left_after, left-next, left-same}
use Rattle.reader.proofs.Laws.Reader as reading
use Rattle.reader.proofs.Laws.Reader.{Opened, opened, NamesRow, given_back_lem}
use Rattle.reply.specs.Reply.{Reply, opening, response_head, response_names, response_octets}
use Rattle.demands.specs.Places.{names_start}
use Rattle.demands.proofs.Laws.Sound.{Sound}
use Rattle.demands.proofs.Laws.Forms.{ending-same, opening-same, stretch_is, size-most, opening-length}
use Rattle.demands.proofs.Laws.Forms.Names.{named-row}
use Rattle.demands.proofs.Laws.Places.{opening-ends}

module _ (v : ℕ) (r : Reply) (k : Sound Response v r) where
  pub response_plain : Every (λ text. Plain (labels text)) (response_names r)
  response_plain = (k.forest.plain, (k.dns.plain, (k.host.plain, tt)))

  pub response-short : Every (λ text. size (labels text) ≤ 255) (response_names r)
  response-short = (size-most 253 r.forest k.forest, (size-most 253 r.dns k.dns, (size-most 253 r.host k.host, tt)))

  pub response_sizes : sizes (response_names r) ≤ 765
  response_sizes = let s = response-short in omega arith

  pub response_head_most : length (response_head r) ≤ 226
  unfolding response_head
  response_head_most = simp (length-append, length-replicate) (omega (arith, opening-length Response v r k, k.guid))

  pub response_room : length (response_head r) + sizes (response_names r) ≤ 0x4000
  response_room = omega (arith, response_head_most, response_sizes)

  abbrev response_named : List ℕ
  response_named = (write_names [] (length (response_head r)) (response_names r)).octets

  abbrev response_rest : List ℕ
  response_rest = r.ipv4 ++ (little_octets 4 r.flags ++ reading.ending response_version)

  response_split : response_octets r ≡ response_head r ++ response_named ++ response_rest
  unfolding response_octets
  response_split = rw (ending-same response_version) (simp append_assoc)

  pub response-length : length (response_octets r) ≤ 1007
  response-length =
      rw response_split
      (simp length-append
      (omega (
        arith,
        response_head_most,
        response_sizes,
        names-short (response_names r) [] (length (response_head r)),
        k.ipv4,
        length-little 4 r.flags,
        length-little 4 response_version,
        length-little 2 Lm20Token,
      )))

  pub response-row : NamesRow (response_octets r) (length (response_head r)) (response_names r) response_named
  response-row = named-row (response_head r) (response_names r) response_plain response-short response_room response_rest (response_octets r) response_split

  pub response_opened : Opened (response_octets r) r.opcode r.server r.user r.netbios (r.guid ++ (NullGuid ++ (response_named ++ response_rest)))
  response_opened = opened (response_octets r) r.opcode r.server r.user r.netbios (r.guid ++ (NullGuid ++ (response_named ++ response_rest))) shape k.opcode k.server_spoken k.user_spoken k.netbios_spoken
    where
      head : response_head r ++ response_named ++ response_rest ≡ opening r ++ (r.guid ++ (NullGuid ++ (response_named ++ response_rest)))
      head = unfold response_head in simp append_assoc

      shape : response_octets r ≡ reading.opening r.opcode r.server r.user r.netbios (r.guid ++ (NullGuid ++ (response_named ++ response_rest)))
      shape = response_split ∙ head ∙ opening-same r (r.guid ++ (NullGuid ++ (response_named ++ response_rest)))

  response-left : Left (response_octets r) (length (response_head r)) (response_named ++ response_rest)
  response-left = record { front = response_head r; whole = response_split ∙ append_assoc (response_head r) response_named response_rest; offset = refl }

  -- the names start where the layout says
  pub response-start : names_start Response (response_octets r) ≡ length (response_head r)
  response-start =
      let names : List ℕ = response_named ++ response_rest in
      let zeros : Left (response_octets r) (response_opened.next + guid_size) (NullGuid ++ names) = left-next r.guid (NullGuid ++ names) guid_size k.guid response_opened.left in
      ap (λ (n : ℕ). n + guid_size + length NullGuid) (opening-ends (response_octets r) _ response_opened.reads) ∙ left-same names (left_after NullGuid names zeros) response-left

  pub response-read : reader.read_response (response_octets r)
      ≡ Ok
      (reader.response
      (record {
        opcode = r.opcode;
        server = response_opened.server_at;
        user = response_opened.user_at;
        domain = response_opened.domain_at;
        guid = record { start = response_opened.next; len = guid_size };
        names = given_back_lem response-row.starts (response_names r) response-row.counts;
        ipv4 = record { start = length (response_head r) + length response_named; len = ipv4_size };
        flags = r.flags;
        version = response_version;
      }))
  response-read =
      reading.read-response (response_octets r) r.opcode r.server r.user r.netbios r.guid (response_names r) response_named r.ipv4 r.flags
      response_opened k.guid k.ipv4 k.flags refl (length (response_head r))
      response-left response-row

  pub response-guid : cut (response_octets r) response_opened.next guid_size ≡ r.guid
  response-guid = stretch_is r.guid (NullGuid ++ (response_named ++ response_rest)) guid_size k.guid response_opened.left

  pub response-ipv4 : cut (response_octets r) (length (response_head r) + length response_named) ipv4_size ≡ r.ipv4
  response-ipv4 = stretch_is r.ipv4 (little_octets 4 r.flags ++ reading.ending response_version) ipv4_size k.ipv4 (left_after response_named response_rest response-left)
