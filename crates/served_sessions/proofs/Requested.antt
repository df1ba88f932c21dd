-- What the frame of a request is read as: by its opcode it asks for a reply, or not.
use Rattle.std.proofs.Common.{◌≡◌, ◌⊎◌, inl, inr, ℕ, Bool, true, false, not, ◌&&◌, List, [], ◌∷◌, ◌++◌, Option, Some, None, refl, sym, ◌∙◌, ap, subst, ◌+◌, ◌≤◌, slice_range, length, arith, rules}
use Rattle.std.specs.List.{list_all}
use Rattle.std.proofs.lemmas.List.{drop_all}
use Rattle.fk_fields.specs.Fields.{number_at}
use Rattle.fk_wire.specs.Faults.{HasLength}
use Rattle.fuse_protocol.specs.declared.agreed.Agreed.{Agreed}
use Rattle.fuse_protocol.specs.declared.opcode.Opcode.{Opcode}
use Rattle.fuse_protocol.specs.declared.opcode.Opcode.TheVariants as op
use Rattle.fuse_protocol.specs.Pairs.{pairs_of_row}
use Rattle.fuse_protocol.specs.Places.{number_in, places_at}
use Rattle.fuse_protocol.specs.declared.request.OpenHandle.TheVariants as opened
use Rattle.fuse_protocol.specs.Requests.{RequestMessage, extension_size}
use Rattle.fuse_protocol.specs.Table.{row_at, code_of}
use Rattle.fuse_protocol.proofs.Codes.{same_opcode}
use Rattle.fuse_sessions.specs.declared.act.Act.{Act}
use Rattle.fuse_sessions.specs.declared.act.Act.TheVariants as act
use Rattle.fuse_sessions.specs.declared.act.Asked.{Asked}
use Rattle.fuse_sessions.specs.declared.known.Known.{Known}
use Rattle.fuse_sessions.specs.Frames.{AreRequestActs, IsRequestOf}
use Rattle.fuse_sessions.specs.RequestActs.{request_acts, asked_of, number_of}
use Rattle.fuse_sessions.specs.UnreadRequests.{unjudged, malformed, asking_unread, has_header, takes_no_reply, opcode_in, unique_in}
use Rattle.served_sessions.proofs.Acts.{each_of, is_plain, is_beside, request_beside, unread_beside, forgets_plain, malformed_plain}
use Rattle.served_sessions.proofs.Asking.{Ask, asks, asks_unread, is_asking, is_wanted}

-- what was asked for once more, where nothing was
abbrev pub not_again : Known → Type 0
not_again k = k.has_resent ≡ false

asking_by_code : (o : Opcode) → takes_no_reply (code_of o) ≡ false → is_asking o ≡ true
asking_by_code op.Interrupt e = cc
asking_by_code op.NotifyReply e = cc
asking_by_code op.Forget e = cc
asking_by_code op.BatchForget e = cc
asking_by_code o e = refl

-- What a request asks, and by which row it was read, if by one.
pub record AsksBy (agreed : Agreed) (bytes : List ℕ) (acts : List Act) : Type 0 where
  pub asked : Asked
  pub ask : Ask acts (unique_in bytes) asked
  pub of_row : (o : Opcode) → asked.opcode ≡ Some o
      → (m : RequestMessage) × IsRequestOf agreed bytes (o, m) × (acts ≡ request_acts false o m) × (asked ≡ asked_of o m)

some_opcode : (o p : Opcode) → ◌≡◌ {A = Option Opcode} (Some o) (Some p) → o ≡ p
some_opcode o p same = ap of same
  where
    of : Option Opcode → Opcode
    of None = o
    of (Some x) = x

whole : (bytes : List ℕ) → HasLength bytes → has_header bytes ≡ true
whole bytes header = grind (arith, rules, header.0)

module _ (k : Known) (bytes : List ℕ) (acts : List Act) (not_resent : not_again k) where
  module _ (o : Opcode) (m : RequestMessage) (is : IsRequestOf k.agreed bytes (o, m))
      (does : acts ≡ request_acts k.has_resent o m) where
    row_acts : acts ≡ request_acts false o m
    row_acts = does ∙ ap (λ (b : Bool). request_acts b o m) not_resent

    asks_of_row : is_asking o ≡ true → AsksBy k.agreed bytes acts
    asks_of_row asking =
        let one : Ask (request_acts false o m) m.unique (asked_of o m) = asks o m asking in
        let two : Ask acts m.unique (asked_of o m) = subst (λ (l : List Act). Ask l m.unique (asked_of o m)) (sym row_acts) one in
        record {
          asked = asked_of o m;
          ask = subst (λ (u : ℕ). Ask acts u (asked_of o m)) (sym is.unique) two;
          of_row = λ p e. subst (λ (q : Opcode). (n : RequestMessage) × IsRequestOf k.agreed bytes (q, n)
              × (acts ≡ request_acts false q n) × (asked_of o m ≡ asked_of q n)) (some_opcode o p e) (m, is, row_acts, refl);
        }

  -- A request that takes a reply asks for it.
  pub request_asks : HasLength bytes → takes_no_reply (opcode_in bytes) ≡ false → AreRequestActs k bytes acts
      → AsksBy k.agreed bytes acts
  request_asks header wanted (inl ((o, m), is, does)) =
      asks_of_row o m is does (asking_by_code o (ap takes_no_reply (sym is.opcode) ∙ wanted))
  request_asks header wanted (inr (none, does)) = record {
    asked = unjudged;
    ask = subst (λ (l : List Act). Ask l (unique_in bytes) unjudged) (sym does)
        (asks_unread k.offered bytes (whole bytes header) wanted);
    of_row = λ o e. absurd (no_opcode o e);
  }
    where
      no_opcode : (o : Opcode) → ◌≡◌ {A = Option Opcode} None (Some o) → ⊥
      no_opcode o e = cc

  -- Any request asks for one reply, or for none.
  pub asks_or_plain : AreRequestActs k bytes acts
      → ((u : ℕ) × (a : Asked) × Ask acts u a × (is_wanted a.opcode ≡ true)) ⊎ (list_all is_plain acts ≡ true)
  unfolding asks_of_row
  asks_or_plain (inl ((o, m), is, does)) = by o m is does
    where
      by : (o : Opcode) (m : RequestMessage) (is : IsRequestOf k.agreed bytes (o, m))
          → acts ≡ request_acts k.has_resent o m
          → ((u : ℕ) × (a : Asked) × Ask acts u a × (is_wanted a.opcode ≡ true)) ⊎ (list_all is_plain acts ≡ true)
      by op.Interrupt m is does = inr (ap (list_all is_plain) (row_acts op.Interrupt m is does))
      by op.NotifyReply m is does = inr (ap (list_all is_plain) (row_acts op.NotifyReply m is does))
      by op.Forget m is does = inr (ap (list_all is_plain) (row_acts op.Forget m is does))
      by op.BatchForget m is does = inr (ap (list_all is_plain) (row_acts op.BatchForget m is does)
          ∙ forgets_plain (pairs_of_row (row_at op.BatchForget).tail m.tail))
      by o m is does = let a = asks_of_row o m is does refl in inl (unique_in bytes, a.asked, a.ask, refl)
  asks_or_plain (inr (none, does)) = by (has_header bytes) (takes_no_reply (opcode_in bytes)) refl refl
    where
      quiet : (has_header bytes && not (takes_no_reply (opcode_in bytes))) ≡ false → list_all is_plain acts ≡ true
      quiet e =
          let none : asking_unread bytes ≡ [] = rw e refl in
          ap (list_all is_plain) (does ∙ ap (λ (l : List Act). act.Arrives ∷ (malformed k.offered bytes ++ l)) none)
          ∙ each_of is_plain (malformed k.offered bytes) [] (malformed_plain k.offered bytes) refl

      by : (h t : Bool) → has_header bytes ≡ h → takes_no_reply (opcode_in bytes) ≡ t
          → ((u : ℕ) × (a : Asked) × Ask acts u a × (is_wanted a.opcode ≡ true)) ⊎ (list_all is_plain acts ≡ true)
      by true false h t = inl (
        unique_in bytes,
        unjudged,
        subst (λ (l : List Act). Ask l (unique_in bytes) unjudged)
            (sym does) (asks_unread k.offered bytes h t),
        refl,
      )
      by true true h t = inr (quiet (rw (h, t) refl))
      by false t h e = inr (quiet (rw h refl))

  -- An INTERRUPT of 48 bytes is read by its row, where no extensions were agreed.
  interrupt_row : k.agreed.has_extensions ≡ false → HasLength bytes → opcode_in bytes ≡ 36 → length bytes ≡ 48
      → (m : RequestMessage) × IsRequestOf k.agreed bytes (op.Interrupt, m)
  interrupt_row none header is36 long = (
    record {
      unique = number_at 8 8 bytes;
      nodeid = number_at 16 8 bytes;
      node = None;
      handle = opened.None;
      asked = 0;
      fixed = slice_range bytes 40 48;
      names = [];
      tail = [];
      extensions = [];
    },
    record {
      short = omega (arith, long);
      len = header.1;
      opcode = is36;
      unique = refl;
      nodeid = refl;
      whole = subst (λ (n : ℕ). 48 + n ≤ length bytes) (sym no_size) (omega (arith, long));
      node = refl;
      handle = refl;
      asked = refl;
      fixed = refl;
      parts = drop_all 48 bytes (omega (arith, long));
      names = tt;
      tail = refl;
      extensions = sym no_size;
    },
  )
    where
      no_size : extension_size k.agreed bytes ≡ 0
      no_size = rw none refl

  -- So these are its acts.
  pub interrupt_does : k.agreed.has_extensions ≡ false → HasLength bytes → opcode_in bytes ≡ 36 → length bytes ≡ 48
      → AreRequestActs k bytes acts
      → (original : ℕ) × (acts ≡ act.Arrives ∷ act.Begins op.Interrupt ∷ act.Interrupts (unique_in bytes) original ∷ [])
  interrupt_does none header is36 long (inl ((o, m), is, does)) =
      let same : o ≡ op.Interrupt = same_opcode o op.Interrupt (sym is.opcode ∙ is36) in
      by o m same is does
    where
      by : (o : Opcode) (m : RequestMessage) → o ≡ op.Interrupt → IsRequestOf k.agreed bytes (o, m)
          → acts ≡ request_acts k.has_resent o m
          → (original : ℕ) × (acts ≡ act.Arrives ∷ act.Begins op.Interrupt ∷ act.Interrupts (unique_in bytes) original ∷ [])
      by o m same is does =
          let original : ℕ = number_of (number_in (places_at op.Interrupt).interrupted m.fixed) in (
            original,
            does ∙ ap (λ (p : Opcode). request_acts k.has_resent p m) same
                ∙ ap (λ (u : ℕ). act.Arrives ∷ act.Begins op.Interrupt ∷ act.Interrupts u original ∷ []) (sym is.unique),
          )
  interrupt_does none header is36 long (inr (no_row, does)) =
      let row = interrupt_row none header is36 long in absurd (no_row (op.Interrupt, row.0) row.1)

  pub acts_beside : AreRequestActs k bytes acts → list_all is_beside acts ≡ true
  acts_beside (inl ((o, m), is, does)) = ap (list_all is_beside) does ∙ request_beside k.has_resent o m
  acts_beside (inr (none, does)) = ap (list_all is_beside) does ∙ unread_beside k.offered bytes
