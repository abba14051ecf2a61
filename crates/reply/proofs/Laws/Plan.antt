-- Laws of a planned reply: its octets and how many they are, by the names as planned.
use mathlib.Core.Path.{◌≡◌, refl, ap, ap₂, ◌∙◌}
use mathlib.Core.Bool.{Bool, true, false}
use mathlib.Core.List.{List, [], ◌++◌}
use Prim.Native.Nat.{ℕ, ◌+◌}
use native.Mathlib.Omega.{arith}
use lib.ListN.{length, take, length-append}
use Rattle.octets.proofs.Laws.Number.{length-little}
use Rattle.answers.specs.Wire.{response_version, ex_version_with_next_site}
use Rattle.names.specs.declared.plan.PlannedName.{PlannedName}
use Rattle.names.specs.Name.{Writing, write_name, write_names}
use Rattle.names.specs.Internal.Plan.{name_octets, names_octets, writings_of}
use Rattle.reply.specs.declared.raw.RawReply.{RawReply}
use Rattle.reply.specs.Reply.{Reply, u32, ending, response_head, response_octets, ex_head, ex_names, address_if, ex_last, ex_octets}
use Rattle.reply.specs.Internal.RawReply.{slot_text, text_if, reply_in}
use Rattle.reply.specs.Internal.Plan.{ex_front, last_name, last_octets, LastFits, ResponsePlan, NextPlan, ExPlan}
use Rattle.reply.proofs.Laws.Reply.{ending-length}

module _ (table request : List ℕ) where
  module _ (r : Reply) (names : List PlannedName) (p : ResponsePlan table request r names) where
    pub response-parts : response_octets r ≡ response_head r ++ names_octets table request (take 3 names) ++ r.ipv4 ++ u32 r.flags ++ ending response_version
    unfolding response_octets
    response-parts = ap (λ (w : Writing). response_head r ++ w.octets ++ r.ipv4 ++ u32 r.flags ++ ending response_version) p.writes

    pub response-length : length (response_octets r) ≡ length (response_head r) + length (names_octets table request (take 3 names)) + length r.ipv4 + 12
    response-length = ap length response-parts ∙ simp (length-append, length-little, ending-length) (omega arith)

  -- name 8 and the version, by whether it is written
  module _ (names : List PlannedName) (at : ℕ) where
    pub last_fits : (b : Bool) (text : List ℕ) → NextPlan table request (text_if b text) names at → LastFits table request b (last_name names)
    last_fits true text p = p.0
    last_fits false text p = tt

    last-octets : (b : Bool) (text : List ℕ) (w : Writing) → w ≡ writings_of table request (take 8 names) → NextPlan table request (text_if b text) names at
        → ex_last (text_if b text) w at ≡ last_octets table request b (last_name names)
    last-octets true text w e p =
        ap (λ (x : Writing). (write_name x.tails at text).octets ++ ending ex_version_with_next_site) e
        ∙ ap (λ (x : Writing). x.octets ++ ending ex_version_with_next_site) p.1
    last-octets false text w e p = refl

  pub last-length : (name : PlannedName) → length (last_octets table request true name) ≡ length (name_octets table request name) + 8
  last-length name = simp (length-append, ending-length)

  pub front_parts : (r : Reply) (names : List PlannedName) → write_names [] (length (ex_head r)) (ex_names r) ≡ writings_of table request (take 8 names)
      → ex_front r ≡ ex_head r ++ names_octets table request (take 8 names) ++ address_if r.with_address_lem r.ipv4
  unfolding ex_front
  front_parts r names e = ap (λ (w : Writing). ex_head r ++ w.octets ++ address_if r.with_address_lem r.ipv4) e

  module _ (raw : RawReply) (names : List PlannedName) (p : ExPlan table request (reply_in table request raw) names) where
    abbrev reply : Reply
    reply = reply_in table request raw

    abbrev last : List ℕ
    last = last_octets table request raw.with_next_site (last_name names)

    pub ex-parts : ex_octets reply ≡ ex_head reply ++ names_octets table request (take 8 names) ++ address_if reply.with_address_lem reply.ipv4 ++ last
    unfolding ex_octets ex_front
    ex-parts =
        let text : List ℕ = slot_text table request raw.«slots» 8 in
        let w : Writing = write_names [] (length (ex_head reply)) (ex_names reply) in
        ap₂ (λ (x y : List ℕ). x ++ y) (front_parts reply names p.writes)
        (last-octets names (length (ex_front reply)) raw.with_next_site text w p.writes p.next)

    pub ex-length : length (ex_octets reply)
        ≡ length (ex_head reply) + length (names_octets table request (take 8 names)) + length (address_if reply.with_address_lem reply.ipv4) + length last
    ex-length = ap length ex-parts ∙ simp length-append
