-- What a frame gives back to a server, the session counts as forgotten.
use Rattle.std.proofs.Common.{◌≡◌, ◌≤◌, inl, inr, ℕ, ◌+◌, true, false, cond, List, [], ◌∷◌, length, drop, Option, Some, refl, sym, ◌∙◌, ap, subst, nat_eq, nat_le, arith, length-take, length-drop}
use Rattle.std.specs.Prelude.{sum_by, slice_range}
use Rattle.std.proofs.lemmas.List.Sums.{sum_by-cons}
use Rattle.fk_fields.specs.Fields.{ReadsAs, number_at}
use Rattle.fk_wire.specs.Opcodes.{latest_minor}
use Rattle.fk_wire.specs.Requests.{RequestContent, request_body}
use Rattle.fk_wire.specs.Requests as wire
use Rattle.fuse_frames.specs.RequestTies.{SaysRequest, body_in, body_or}
use Rattle.fuse_spec.specs.Kernel.Messages.{Request, RequestBody}
use Rattle.fuse_spec.specs.Server.Server.{forgotten}
use Rattle.fuse_spec.specs.Server.Server as server
use Rattle.fuse_protocol.specs.declared.agreed.Agreed.{Agreed}
use Rattle.fuse_protocol.specs.declared.opcode.Opcode.{Opcode}
use Rattle.fuse_protocol.specs.declared.opcode.Opcode.TheVariants as op
use Rattle.fuse_protocol.specs.Agreement.{before_init}
use Rattle.fuse_protocol.specs.Pairs.{pairs_of_row}
use Rattle.fuse_protocol.specs.Places as places
use Rattle.fuse_protocol.specs.Places.{places_at}
use Rattle.fuse_protocol.specs.Requests.{IsRequest, RequestMessage, extension_size}
use Rattle.fuse_protocol.specs.Table.{row_at}
use Rattle.fuse_protocol.proofs.Codes.{same_opcode}
use Rattle.fuse_protocol.proofs.OneRequest.{one_request}
use Rattle.fuse_sessions.specs.declared.act.Act.{Act}
use Rattle.fuse_sessions.specs.declared.act.Act.TheVariants as act
use Rattle.fuse_sessions.specs.declared.known.Known.{Known}
use Rattle.fuse_sessions.specs.Counts.{forgets_of}
use Rattle.fuse_sessions.specs.Frames.{AreRequestActs}
use Rattle.fuse_sessions.specs.RequestActs.{forgets_in, number_of, request_acts}
use Rattle.protocol_law.specs.Law.{Carries, IsReadAlike}
use Rattle.protocol_law.proofs.Alike.{alike}
use Rattle.served_sessions.proofs.Placed.{number_from}
use Rattle.served_sessions.proofs.Requests.{body_reads}

-- the forgets of a request are acts of the session
pub sums_alike : (n : ℕ) (pairs : List (ℕ × ℕ)) → forgotten n pairs ≡ sum_by (forgets_of n) (forgets_in pairs)
sums_alike n [] = refl
sums_alike n (p ∷ pairs) =
    let one = sum_by-cons (λ (f : ℕ × ℕ). cond (nat_eq f.0 n) f.1 0) p pairs in
    let two = sum_by-cons (forgets_of n) (act.Forgets p.0 p.1) (forgets_in pairs) in
    let rest = sums_alike n pairs in
    omega (arith, one, two, rest)

-- behind the acts of reading it
pub behind_reading : (n u : ℕ) (o : Opcode) (acts : List Act)
    → sum_by (forgets_of n) (act.Arrives ∷ act.Begins o ∷ act.Read (Some o) u ∷ acts) ≡ sum_by (forgets_of n) acts
behind_reading n u o acts =
    let one = sum_by-cons (forgets_of n) act.Arrives (act.Begins o ∷ act.Read (Some o) u ∷ acts) in
    let two = sum_by-cons (forgets_of n) (act.Begins o) (act.Read (Some o) u ∷ acts) in
    let three = sum_by-cons (forgets_of n) (act.Read (Some o) u) acts in
    omega (arith, one, two, three)

-- a request of an opcode whose struct has one size, under another agreement
same_size : (a b : Agreed) (bytes : List ℕ) → a.has_extensions ≡ false → b.has_extensions ≡ false
    → extension_size a bytes ≡ extension_size b bytes
same_size a b bytes one two = rw (one, two) refl

forget_row : (a b : Agreed) (bytes : List ℕ) (r : RequestMessage) → extension_size a bytes ≡ extension_size b bytes
    → IsRequest a bytes (row_at op.Forget) r → IsRequest b bytes (row_at op.Forget) r
forget_row a b bytes r size is = record {
  short = is.short;
  len = is.len;
  opcode = is.opcode;
  unique = is.unique;
  nodeid = is.nodeid;
  whole = subst (λ (n : ℕ). 48 + n ≤ length bytes) size is.whole;
  node = is.node;
  handle = is.handle;
  asked = is.asked;
  fixed = is.fixed;
  parts = is.parts;
  names = is.names;
  tail = is.tail;
  extensions = is.extensions ∙ size;
}

batch_row : (a b : Agreed) (bytes : List ℕ) (r : RequestMessage) → extension_size a bytes ≡ extension_size b bytes
    → IsRequest a bytes (row_at op.BatchForget) r → IsRequest b bytes (row_at op.BatchForget) r
batch_row a b bytes r size is = record {
  short = is.short;
  len = is.len;
  opcode = is.opcode;
  unique = is.unique;
  nodeid = is.nodeid;
  whole = subst (λ (n : ℕ). 48 + n ≤ length bytes) size is.whole;
  node = is.node;
  handle = is.handle;
  asked = is.asked;
  fixed = is.fixed;
  parts = is.parts;
  names = is.names;
  tail = is.tail;
  extensions = is.extensions ∙ size;
}

-- how many lookups a FORGET gives back, by its frame
forgotten_at : (agreed : Agreed) (bytes : List ℕ) (r : RequestMessage) → IsRequest agreed bytes (row_at op.Forget) r
    → number_at 40 8 bytes ≡ number_of (places.number_in (places_at op.Forget).forgotten r.fixed)
forgotten_at agreed bytes r is =
    let whole : 48 + extension_size agreed bytes ≤ length bytes = is.whole in
    let fixed : slice_range bytes 40 48 ≡ r.fixed = is.fixed in
    let long : length (slice_range bytes 40 48) ≡ 8 =
    omega (arith, whole, length-take 8 (drop 40 bytes), length-drop 40 bytes) in
    let enough : nat_le 8 (length (slice_range bytes 40 48)) ≡ true = rw long refl in
    let at : number_of (places.number_in (places_at op.Forget).forgotten (slice_range bytes 40 48))
    ≡ number_at 0 8 (slice_range bytes 40 48) = rw enough refl in
    sym (number_from 40 40 8 0 8 bytes refl (omega arith)) ∙ sym at
    ∙ ap (λ (l : List ℕ). number_of (places.number_in (places_at op.Forget).forgotten l)) fixed

module _ (k : Known) (bytes : List ℕ) (acts : List Act) (plain : k.agreed.has_extensions ≡ false)
    (does : AreRequestActs k bytes acts) where
  carried : Agreed
  carried = before_init

  carries : Carries before_init
  carries = record { from_umask = omega arith; no_extensions = refl; names = omega arith }

  -- the acts are those of this request
  pub acts_of : (o : Opcode) (r : RequestMessage) → IsRequest k.agreed bytes (row_at o) r
      → acts ≡ request_acts k.has_resent o r
  acts_of o r is = by does
    where
      by : AreRequestActs k bytes acts → acts ≡ request_acts k.has_resent o r
      by (inl ((p, q), as_row, as_acts)) =
          let same : p ≡ o = same_opcode p o (sym as_row.opcode ∙ is.opcode) in
          let here : IsRequest k.agreed bytes (row_at o) q =
          subst (λ (x : Opcode). IsRequest k.agreed bytes (row_at x) q) same as_row in
          as_acts ∙ ap (λ (x : Opcode). request_acts k.has_resent x q) same
          ∙ ap (request_acts k.has_resent o) (one_request k.agreed bytes (row_at o) q r here is)
      by (inr (none, as_none)) = absurd (none (o, r) is)

  module _ (request : Request) (says : SaysRequest bytes request) (n : ℕ) where
    of_content : (c : RequestContent) → wire.opcode_of c ≡ wire.opcode_of says.message.content
        → IsReadAlike before_init bytes (record { unique = says.message.unique; nodeid = says.message.nodeid; content = c })
        → ReadsAs 40 (request_body c) bytes
        → forgotten n (server.forgets_of (body_or (body_in says.message.nodeid c))) ≤ sum_by (forgets_of n) acts
    of_content (wire.forget lookups) same (r, is, alike_so) reads =
        let row : IsRequest k.agreed bytes (row_at op.Forget) r =
        forget_row before_init k.agreed bytes r (same_size before_init k.agreed bytes refl plain) is in
        let node : r.nodeid ≡ says.message.nodeid = alike_so.nodeid refl in
        let count : number_of (places.number_in (places_at op.Forget).forgotten r.fixed) ≡ lookups =
        sym (forgotten_at k.agreed bytes r row) ∙ reads.0 in
        let are = ap (sum_by (forgets_of n)) (acts_of op.Forget r row) in
        let behind = behind_reading n r.unique op.Forget (act.Forgets r.nodeid
        (number_of (places.number_in (places_at op.Forget).forgotten r.fixed)) ∷ []) in
        let now : sum_by (forgets_of n) (act.Forgets r.nodeid
        (number_of (places.number_in (places_at op.Forget).forgotten r.fixed)) ∷ [])
        ≡ sum_by (forgets_of n) (act.Forgets says.message.nodeid lookups ∷ []) =
        ap (λ (x : ℕ). sum_by (forgets_of n) (act.Forgets x
        (number_of (places.number_in (places_at op.Forget).forgotten r.fixed)) ∷ [])) node
        ∙ ap (λ (x : ℕ). sum_by (forgets_of n) (act.Forgets says.message.nodeid x ∷ [])) count in
        let sums = sums_alike n ((says.message.nodeid, lookups) ∷ []) in
        omega (arith, are, behind, now, sums)
    of_content (wire.batch_forget pairs) same (r, is, alike_so) reads =
        let row : IsRequest k.agreed bytes (row_at op.BatchForget) r =
        batch_row before_init k.agreed bytes r (same_size before_init k.agreed bytes refl plain) is in
        let are = ap (sum_by (forgets_of n)) (acts_of op.BatchForget r row) in
        let behind = behind_reading n r.unique op.BatchForget (forgets_in (pairs_of_row (row_at op.BatchForget).tail r.tail)) in
        let now : sum_by (forgets_of n) (forgets_in (pairs_of_row (row_at op.BatchForget).tail r.tail))
        ≡ sum_by (forgets_of n) (forgets_in pairs) = ap (λ (l : List (ℕ × ℕ)). sum_by (forgets_of n) (forgets_in l)) alike_so.tail in
        let sums = sums_alike n pairs in
        omega (arith, are, behind, now, sums)
    of_content (wire.lookup name) same read reads = omega arith
    of_content c same read reads = omega arith

    -- No more is given back than the session counts as forgotten.
    pub forgets_read : forgotten n (server.forgets_of request.body) ≤ sum_by (forgets_of n) acts
    forgets_read =
        let here = of_content says.message.content refl (alike latest_minor before_init bytes says.message carries says.spells)
        (body_reads bytes request says) in
        let same : forgotten n (server.forgets_of (body_or (body_in says.message.nodeid says.message.content)))
        ≡ forgotten n (server.forgets_of request.body) =
        ap (λ (b : Option RequestBody). forgotten n (server.forgets_of (body_or b))) says.says in
        omega (arith, here, same)
