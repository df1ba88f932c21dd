-- What the frame of a reply to INIT says by the places of its struct.
use Rattle.std.proofs.Common.{◌≡◌, ◌≤◌, ◌<◌, ℕ, pos, ◌+◌, ◌^◌, Bool, true, false, List, [], ◌∷◌, length, sym, ◌∙◌, ap, subst, bit_and, arith}
use Rattle.std.proofs.lemmas.Bool.{le-ltb}
use Rattle.fk_fields.specs.Fields.{Field, number_at, u32, u64, free, free32, ReadsAs, InRange}
use Rattle.fk_wire.specs.Replies.{WrittenReply, init_reply, init_end, states_15}
use Rattle.fk_wire.proofs.Frames.{reads_back}
use Rattle.fuse_protocol.specs.Init.{init_request_at, init_reply_at, number_or_none, wide_flags}
use Rattle.fuse_spec.specs.declared.Minor.{Minor}
use Rattle.served_sessions.specs.Exchanges.{AgreesOn}
use Rattle.served_sessions.proofs.Flags.{taken_up, taken_up_low, taken_up_narrow, taken_up_offered}

init_is_long : (old : Bool) (bytes : List ℕ) → ReadsAs 40 (init_end old) bytes → 40 ≤ length bytes
init_is_long true bytes h = omega (arith, h)
init_is_long false bytes h = omega (arith, h)

number_there : (place width value : ℕ) (bytes : List ℕ) → place + width ≤ length bytes
    → number_at place width bytes ≡ value → number_or_none place width bytes ≡ value
number_there place width value bytes le e = rw (le-ltb (length bytes) (place + width) le) e

module _ (unique minor_is : ℕ) (minor : Minor) (offered : ℕ) (reply : List ℕ)
    (w : WrittenReply (record { unique = unique; error = pos 0; content = init_reply 7 minor_is (taken_up minor offered) }) reply) where
  -- its fields, with all bits of the flags
  fields : List Field
  fields = u32 (length reply) ∷ u32 0 ∷ u64 unique ∷ u32 7 ∷ u32 minor_is ∷ free32 0 ∷ u32 (taken_up minor offered)
      ∷ free 2 0 ∷ free 2 0 ∷ free32 4096 ∷ init_end (states_15 7 minor_is)

  reads : ReadsAs 0 (u32 (length reply) ∷ u32 0 ∷ u64 unique ∷ u32 7 ∷ u32 minor_is ∷ free32 0
      ∷ u32 (taken_up minor offered) ∷ free 2 0 ∷ free 2 0 ∷ free32 4096 ∷ init_end (states_15 7 minor_is)) reply
  reads =
      let r = w.6 in
      let fs : List Field = u32 (length reply) ∷ u32 0 ∷ u64 unique ∷ u32 7 ∷ u32 minor_is ∷ free32 0
      ∷ u32 (taken_up minor offered) ∷ free 2 0 ∷ free 2 0 ∷ free32 4096 ∷ init_end (states_15 7 minor_is) in
      let fit : InRange fs = (r.0, (r.1.0, (r.1.1.0, (r.1.1.1.0, (r.1.1.1.1.0, (r.1.1.1.1.1.0, r.1.1.1.1.1.2)))))) in
      subst (λ (x : List ℕ). ReadsAs 0 fs x) (sym w.8) (reads_back fs [] fit w.7)

  long : 40 ≤ length reply
  long = init_is_long (states_15 7 minor_is) reply reads.1.1.1.1.1.1

  version : (init_reply_at reply).major ≡ 7
  version = number_there 16 4 7 reply (omega (arith, long)) reads.1.1.1.0

  flags_are : (init_reply_at reply).flags ≡ taken_up minor offered
  flags_are = ap (λ (n : ℕ). wide_flags n (number_or_none 48 4 reply))
      (number_there 28 4 (taken_up minor offered) reply (omega (arith, long)) reads.1.1.1.1.1.0)
      ∙ taken_up_narrow minor offered (number_or_none 48 4 reply)

  -- It agrees with a request that offers this.
  pub agrees_with : (request : List ℕ) → number_at 52 4 request ≡ offered → AgreesOn request reply
  agrees_with request is = record {
    version = version;
    plain = subst (λ (n : ℕ). n < 2 ^ 32) (sym flags_are) (taken_up_low minor offered);
    flags = ap (λ (n : ℕ). bit_and n (init_request_at request).flags) flags_are
        ∙ ap (λ (n : ℕ). bit_and (taken_up minor offered) (wide_flags n (number_or_none 56 4 request))) is
        ∙ taken_up_offered minor offered (number_or_none 56 4 request) ∙ sym flags_are;
  }
