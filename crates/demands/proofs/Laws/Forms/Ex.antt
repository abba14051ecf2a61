-- The octets of an EX reply in the order of the reader's fields, with its names at their places.
use Rattle.std.proofs.Common.{Ok, Option, None, Some}
use mathlib.Core.Path.{◌≡◌, refl, sym, ap, ◌∙◌, subst}
use mathlib.Core.Bool.{Bool, true, false, cond}
use mathlib.Core.List.{List, [], ◌++◌, append_assoc}
use Prim.Native.Nat.{ℕ, ◌+◌, ◌≤◌}
use native.Mathlib.Omega.{arith}
use lib.ListN.{length, length-append}
use Rattle.answers.specs.declared.Form.TheVariants.{Ex}
use Rattle.answers.specs.Wire.{netlogon_nt_version_5ex_with_ip, netlogon_nt_version_with_closest_site, ex_version, ex_version_with_next_site, Sbz, DcSockAddrSize, sin_family}
use Rattle.names.specs.Name.{Tail, Writing, write_name, write_names}
use Rattle.names.specs.WalkRelation.{Walks}
use Rattle.names.proofs.Laws.Name.{Ready, ready_later, Written, labels-written, labels-short, sizes, names-short, Spot}
use Rattle.names.proofs.Laws.Walk.{longer}
use Rattle.octets.specs.Label.{labels}
use Rattle.octets.proofs.Laws.Label.{Plain, size}
use Rattle.octets.proofs.Laws.Lists.{Every}
use Rattle.octets.proofs.Laws.NameRule.{Writable}
use Rattle.octets.specs.Lists.{cut}
use Rattle.octets.specs.Number.{little_octets, has}
use Rattle.octets.proofs.Laws.Number.{length-little}
use Rattle.octets.specs.Sid.{guid_size}
use Rattle.reader.specs.Reader as reader
use Rattle.reader.proofs.Laws.Field.{Left, left-start, left_after, left-next}
use Rattle.reader.proofs.Laws.Reader as reading
use Rattle.reader.proofs.Laws.Reader.{NamesRow, given_back_lem, LastAt}
use Rattle.reply.specs.Reply.{Reply, ex_head, ex_names, address_if, ex_last, ex_octets}
use Rattle.demands.specs.Places.{names_start, last_start}
use Rattle.demands.proofs.Laws.Sound.{Sound}
use Rattle.demands.proofs.Laws.Forms.{ending-same, address_same, stretch_is, size-most, ending-length}
use Rattle.demands.proofs.Laws.Forms.Names.{chain, named-row}
use Rattle.demands.proofs.Laws.Places.{names-end}

-- the octets of name 8, if there is one
abbrev pub last_name : Option (List ℕ) → List Tail → ℕ → List ℕ
last_name None tails at = []
last_name (Some text) tails at = (write_name tails at text).octets

last-same : (site : Option (List ℕ)) (names : Writing) (at : ℕ) → ex_last site names at ≡ reading.last site (last_name site names.tails at)
last-same None names at = ending-same ex_version
last-same (Some text) names at = rw (ending-same ex_version_with_next_site)

module _ (v : ℕ) (r : Reply) (k : Sound Ex v r) where
  pub ex_plain : Every (λ text. Plain (labels text)) (ex_names r)
  ex_plain =
      (k.forest.plain, (k.dns.plain, (k.host.plain, (k.netbios.plain, (k.server.plain, ((k.user refl).plain, (k.own_site_lem.plain, (k.client_site_lem.plain, tt))))))))

  ex-texts : (size (labels r.forest) ≤ 255) × (size (labels r.dns) ≤ 255) × (size (labels r.host) ≤ 255) × (size (labels r.netbios) ≤ 17) × (size (labels r.server) ≤ 17)
      × (size (labels r.user) ≤ 65) × (size (labels r.own_site_lem) ≤ 65) × (size (labels r.client_site_lem) ≤ 65)
  ex-texts = (
    size-most 253 r.forest k.forest,
    size-most 253 r.dns k.dns,
    size-most 253 r.host k.host,
    size-most 15 r.netbios k.netbios,
    size-most 15 r.server k.server,
    size-most 63 r.user (k.user refl),
    size-most 63 r.own_site_lem k.own_site_lem,
    size-most 63 r.client_site_lem k.client_site_lem,
  )

  pub ex-short : Every (λ text. size (labels text) ≤ 255) (ex_names r)
  ex-short = let t = ex-texts in omega arith

  pub ex_sizes : sizes (ex_names r) ≤ 994
  ex_sizes = let t = ex-texts in omega arith

  pub ex_head_length : length (ex_head r) ≡ 24
  unfolding ex_head
  ex_head_length = simp length-append (omega (arith, length-little 2 r.opcode, length-little 2 Sbz, length-little 4 r.flags, k.guid))

  pub ex_room : length (ex_head r) + sizes (ex_names r) ≤ 0x4000
  ex_room = omega (arith, ex_head_length, ex_sizes)

  abbrev ex_named : Writing
  ex_named = write_names [] (length (ex_head r)) (ex_names r)

  abbrev pub ex_front : List ℕ
  ex_front = ex_head r ++ ex_named.octets ++ address_if r.with_address_lem r.ipv4

  abbrev ex_end : List ℕ
  ex_end = last_name r.next_site_lem ex_named.tails (length ex_front)

  pub ex_split : ex_octets r ≡ ex_front ++ reading.last r.next_site_lem ex_end
  unfolding ex_octets
  ex_split = ap (λ (x : List ℕ). ex_front ++ x) (last-same r.next_site_lem ex_named (length ex_front))

  abbrev ex_rest : List ℕ
  ex_rest = reading.address (has v netlogon_nt_version_5ex_with_ip) r.ipv4 ++ reading.last r.next_site_lem ex_end

  address_is : address_if r.with_address_lem r.ipv4 ≡ reading.address (has v netlogon_nt_version_5ex_with_ip) r.ipv4
  address_is = address_same r.with_address_lem r.ipv4 ∙ ap (λ (b : Bool). reading.address b r.ipv4) k.address

  ex-names : ex_octets r ≡ ex_head r ++ ex_named.octets ++ ex_rest
  ex-names =
      ex_split ∙ append_assoc (ex_head r ++ ex_named.octets) (address_if r.with_address_lem r.ipv4) (reading.last r.next_site_lem ex_end)
      ∙ ap (λ (x : List ℕ). ex_head r ++ ex_named.octets ++ (x ++ reading.last r.next_site_lem ex_end)) address_is

  pub ex-row : NamesRow (ex_octets r) (length (ex_head r)) (ex_names r) ex_named.octets
  ex-row = named-row (ex_head r) (ex_names r) ex_plain ex-short ex_room ex_rest (ex_octets r) ex-names

  front_length : length ex_front ≡ length (ex_head r) + length ex_named.octets + length (reading.address (has v netlogon_nt_version_5ex_with_ip) r.ipv4)
  front_length = rw address_is (simp length-append)

  address-length : (b : Bool) → length (reading.address b r.ipv4) ≡ cond b (1 + DcSockAddrSize) 0
  address-length true = simp length-append (omega (arith, length-little 4 sin_family, k.ipv4))
  address-length false = refl

  address-short : (b : Bool) → length (reading.address b r.ipv4) ≤ 17
  address-short true = omega (arith, address-length true)
  address-short false = omega arith

  -- the names start where the layout says, and so does name 8
  pub ex-start : names_start Ex (ex_octets r) ≡ length (ex_head r)
  ex-start = sym ex_head_length

  pub ex-last-start : last_start v (ex_octets r) ≡ length ex_front
  ex-last-start = omega (arith, names-end Ex ex-row ex-start, address-length (has v netlogon_nt_version_5ex_with_ip), front_length)

  pub front_short : length ex_front ≤ 1035
  front_short = omega (arith, front_length, ex_head_length, ex_sizes, names-short (ex_names r) [] (length (ex_head r)), address-short (has v netlogon_nt_version_5ex_with_ip))

  -- name 8 after the address, at place 8
  pub last_written : (text : List ℕ) → Writable 63 text
      → Written 8 (length ex_front) (length ex_front) (labels text) (ex_front ++ (write_name ex_named.tails (length ex_front) text).octets) (write_name ex_named.tails (length ex_front) text).tails
  unfolding write_name
  last_written text w =
      let c = chain (ex_head r) (ex_names r) ex_plain ex-short ex_room in
      let before : List ℕ = ex_head r ++ ex_named.octets in
      let h : length before ≤ length ex_front = simp length-append (omega arith) in
      let ready : Every (Ready 8 (length ex_front) ex_front) ex_named.tails =
      ready_later (0 + 8) 8 (length before) (length ex_front) before (address_if r.with_address_lem r.ipv4) (omega arith) h ex_named.tails c.ready in
      labels-written ex_named.tails 8 (length ex_front) (labels text) ex_front (length ex_front) refl (omega arith) (omega (arith, front_short, size-most 63 text w)) ready w.plain

  -- name 8 where it is written: read there, and walked with at most 8 pointers and no more than its labels
  abbrev pub LastSpot : Option (List ℕ) → ℕ → Type 0
  LastSpot None count = Unit {0}
  LastSpot (Some text) count = Spot (ex_octets r) (length ex_front) 8 text count

  pub last_there : (site : Option (List ℕ)) → r.next_site_lem ≡ site
      → (count : ℕ) × LastAt (ex_octets r) v (length ex_front) site (last_name site ex_named.tails (length ex_front)) count × LastSpot site count
  last_there None q = (0, tt, tt)
  last_there (Some text) q =
      let s : List ℕ = ex_octets r in
      let at : ℕ = length ex_front in
      let octets : List ℕ = (write_name ex_named.tails (length ex_front) text).octets in
      let given : Writable 63 text × (has v netlogon_nt_version_with_closest_site ≡ true) = k.next_site_lem text q in
      let w = last_written text given.0 in
      let whole : s ≡ ex_front ++ (octets ++ reading.ending ex_version_with_next_site) =
      subst (λ (x : Option (List ℕ)). s ≡ ex_front ++ reading.last x (last_name x ex_named.tails (length ex_front))) q ex_split in
      let e : length (ex_front ++ octets) ≡ at + length octets = length-append ex_front octets in
      let walks : Walks (ex_front ++ octets) at at (labels text) w.count (at + length octets) = rw e at w.walks in
      let there : Walks s at at (labels text) w.count (at + length octets) =
      subst (λ (x : List ℕ). Walks x at at (labels text) w.count (at + length octets)) (append_assoc ex_front octets (reading.ending ex_version_with_next_site) ∙ sym whole) (longer (reading.ending ex_version_with_next_site) walks) in (
        w.count,
        (there, omega (arith, size-most 63 text given.0), omega (arith, w.by_place), given.1),
        record { next = at + length octets; by_place = w.by_place; by_labels = w.by_labels; walks = there },
      )

  abbrev last_count : ℕ
  last_count = (last_there r.next_site_lem refl).0

  ex_shape : ex_octets r ≡ little_octets 2 r.opcode ++ (little_octets 2 Sbz ++ (little_octets 4 r.flags ++ (r.guid ++ (ex_named.octets ++ ex_rest))))
  ex_shape = ex-names ∙ head
    where
      head : ex_head r ++ ex_named.octets ++ ex_rest ≡ little_octets 2 r.opcode ++ (little_octets 2 Sbz ++ (little_octets 4 r.flags ++ (r.guid ++ (ex_named.octets ++ ex_rest))))
      head = unfold ex_head in simp append_assoc

  ex-left : Left (ex_octets r) (length (ex_head r)) (ex_named.octets ++ ex_rest)
  ex-left = record { front = ex_head r; whole = ex-names ∙ append_assoc (ex_head r) ex_named.octets ex_rest; offset = refl }

  -- the address and what follows stand after the names
  pub ex_rest_left : Left (ex_octets r) (length (ex_head r) + length ex_named.octets) ex_rest
  ex_rest_left = left_after ex_named.octets ex_rest ex-left

  pub ex-guid : cut (ex_octets r) (2 + 2 + 4) guid_size ≡ r.guid
  ex-guid =
      let numbers : List ℕ = little_octets 2 r.opcode ++ (little_octets 2 Sbz ++ little_octets 4 r.flags) in
      let n : length numbers ≡ 2 + 2 + 4 = simp length-append (omega (arith, length-little 2 r.opcode, length-little 2 Sbz, length-little 4 r.flags)) in
      let whole : Left (ex_octets r) 0 (numbers ++ (r.guid ++ (ex_named.octets ++ ex_rest))) = subst (Left (ex_octets r) 0) (ex_shape ∙ simp append_assoc) (left-start (ex_octets r)) in
      stretch_is r.guid (ex_named.octets ++ ex_rest) guid_size k.guid (left-next numbers (r.guid ++ (ex_named.octets ++ ex_rest)) (2 + 2 + 4) n whole)

  pub ex-read : reader.read_ex v (ex_octets r)
      ≡ Ok
      (reader.ex
      (reading.ex_given v r.opcode r.flags (given_back_lem ex-row.starts (ex_names r) ex-row.counts) (length (ex_head r) + length ex_named.octets)
      (reading.last_given r.next_site_lem (length ex_front) last_count)))
  ex-read =
      let last : LastAt (ex_octets r) v (length (ex_head r) + length ex_named.octets + length (reading.address (has v netlogon_nt_version_5ex_with_ip) r.ipv4)) r.next_site_lem ex_end last_count =
      subst (λ (x : ℕ). LastAt (ex_octets r) v x r.next_site_lem ex_end last_count) front_length (last_there r.next_site_lem refl).1 in
      subst (λ (x : ℕ).
      reader.read_ex v (ex_octets r)
      ≡ Ok
      (reader.ex
      (reading.ex_given v r.opcode r.flags (given_back_lem ex-row.starts (ex_names r) ex-row.counts) (length (ex_head r) + length ex_named.octets)
      (reading.last_given r.next_site_lem x last_count))))
      (sym front_length)
      (reading.read-ex (ex_octets r) v r.opcode r.flags r.guid (ex_names r) ex_named.octets r.ipv4 r.next_site_lem ex_end last_count
      (length (ex_head r)) ex_shape k.opcode k.flags k.guid k.ipv4 refl
      ex-left ex-row last)

  last-length : (site : Option (List ℕ)) → r.next_site_lem ≡ site → length (reading.last site (last_name site ex_named.tails (length ex_front))) ≤ 73
  unfolding write_name
  last-length None q = omega (arith, ending-length ex_version)
  last-length (Some text) q =
      let w : Writable 63 text = (k.next_site_lem text q).0 in
      let octets : List ℕ = (write_name ex_named.tails (length ex_front) text).octets in
      let e : length (octets ++ reading.ending ex_version_with_next_site) ≡ length octets + length (reading.ending ex_version_with_next_site) = length-append octets (reading.ending ex_version_with_next_site) in
      omega (arith, ending-length ex_version_with_next_site, labels-short ex_named.tails (length ex_front) (labels text), size-most 63 text w)

  pub ex-length : length (ex_octets r) ≤ 1108
  ex-length =
      let last : List ℕ = reading.last r.next_site_lem ex_end in
      let n : length (ex_octets r) ≡ length ex_front + length last = ap length ex_split ∙ length-append ex_front last in
      omega (arith, front_short, last-length r.next_site_lem refl)
