-- File handles stay balanced as the server takes requests, performs them, sends copies and settles them.
use Rattle.std.proofs.Common.{◌≡◌, ℕ, ◌+◌, Bool, true, false, true≢false, ◌&&◌, List, [], ◌∷◌, ◌++◌, Option, Some, None, is_some, slice_get, get_or, refl, ap, sym, ◌∙◌, arith, All}
use Rattle.std.specs.Prelude.{◌%◌, sum_by}
use Rattle.std.specs.List.{list_all, remove as without_at}
use Rattle.std.proofs.lemmas.List.Sums.{sum_by_push}
use Rattle.fuse_spec.specs.declared.Entry.{Entry}
use Rattle.fuse_spec.specs.declared.Opened.{Opened}
use Rattle.fuse_spec.specs.declared.ReplyResult.{ReplyResult}
use Rattle.fuse_spec.specs.declared.WriteResult.{WriteResult}
use Rattle.fuse_spec.specs.declared.WriteResult.TheVariants.{Accepted, NoEntry, Invalid}
use Rattle.fuse_spec.specs.Values.Maps.{Map, get, put, remove}
use Rattle.fuse_spec.specs.Kernel.Messages.{Request, RequestBody, init, asks, release, forget, batch_forget, interrupt}
use Rattle.fuse_spec.specs.Files.Operations.{failed, files_in_reply, opens_in_reply}
use Rattle.fuse_spec.specs.Server.Nodes.{is_held}
use Rattle.fuse_spec.specs.Server.Server.{Server, HeldRequest, Kept, Copy}
use Rattle.fuse_spec.specs.Server.Taking.{taking, interrupting}
use Rattle.fuse_spec.specs.Server.Copies.{is_current, kept_after, after_result, given_back}
use Rattle.fuse_spec.specs.Claim.Counts.{opens_in, carried, refused, result_carries}
use Rattle.fuse_spec.specs.World.Worlds.{World, Sent, after_take, after_again, after_settle}
use Rattle.fuse_spec.proofs.Tables.{get_gone_there}
use Rattle.fuse_theorem.specs.Copies.{CopiesSound}
use Rattle.fuse_theorem.specs.OpenNumbers.{released_by, open_files}
use Rattle.fuse_theorem.specs.ServerTables.{ServerSound}
use Rattle.fuse_theorem.specs.Unperformed.{BearsNumber}
use Rattle.fuse_theorem.proofs.Replies.CopiesSound.{results_still, results_apart}
use Rattle.fuse_theorem.proofs.Lists.LinkSums.{sum_removed, sum_same}
use Rattle.fuse_theorem.proofs.Lists.MapSums.{Rises, worth, sum_put}
use Rattle.fuse_theorem.proofs.OpenFiles.NumberCounts.{fh_count, counted_counts, given_back_counts}
use Rattle.fuse_theorem.proofs.Lists.OpenSums.{has_handle, held_sum, open_sum, CountsOpens}

-- How often copies on the reply link carry a handle, and how often the refused ones did.
abbrev pub replies_carry : ℕ → List Sent → ℕ
replies_carry fh replies = sum_by (λ (s : Sent). opens_in fh s.wire) replies

abbrev pub results_carry : ℕ → Server → List ReplyResult → ℕ
results_carry fh s results = sum_by (result_carries (opens_in fh) s) results

-- What a request's body releases, by a weight.
abbrev pub body_sum : (Opened → ℕ) → RequestBody → ℕ
body_sum f body = sum_by f (released_by body)

module _ (w : World) (counts : CountsOpens w) (sound : CopiesSound w) (server : ServerSound w.server) where
  -- ---- a copy goes out

  -- A copy goes out, and what it carries is counted once more.
  pub copy_out : (v : World) (copy : Copy) → v.server.copies ≡ put w.server.copies w.server.next_copy copy
      → v.replies ≡ w.replies ++ record { number = w.server.next_copy; unique = copy.unique; wire = copy.wire } ∷ []
      → v.results ≡ w.results
      → ((fh : ℕ) → fh_count v.server.handles fh + sum_by (has_handle fh) (open_files w)
      ≡ fh_count w.server.handles fh + opens_in fh copy.wire + sum_by (has_handle fh) (open_files v))
      → CountsOpens v
  copy_out v copy copies replies results moved fh =
      let whole = counts fh in
      let change = moved fh in
      let pushed : replies_carry fh v.replies ≡ replies_carry fh w.replies + opens_in fh copy.wire =
      ap (replies_carry fh) replies ∙ sum_by_push (λ (s : Sent). opens_in fh s.wire) w.replies
      (record { number = w.server.next_copy; unique = copy.unique; wire = copy.wire }) in
      let back : results_carry fh v.server v.results ≡ results_carry fh w.server w.results =
      ap (results_carry fh v.server) results ∙ same_refused in
      omega (arith, whole, change, pushed, back)
    where
      same_copy : All (λ (r : ReplyResult). get v.server.copies r.number ≡ get w.server.copies r.number) w.results
      same_copy i r lt = ap (λ (m : Map Copy). get m
          (get_or w.results i r).number) copies ∙ results_still w sound server copy i r lt

      same_refused : results_carry fh v.server w.results ≡ results_carry fh w.server w.results
      same_refused =
          sum_same (result_carries (opens_in fh) v.server) (result_carries (opens_in fh) w.server) w.results
          (λ i r lt. ap (λ (o : Option Copy). refused (get_or w.results i r).result (carried (opens_in fh) o))
          (same_copy i r lt))

  -- Nothing goes out.
  pub none_out : (v : World) → v.server.copies ≡ w.server.copies → v.replies ≡ w.replies → v.results ≡ w.results
      → ((fh : ℕ) → fh_count v.server.handles fh + sum_by (has_handle fh) (open_files w)
      ≡ fh_count w.server.handles fh + sum_by (has_handle fh) (open_files v)) → CountsOpens v
  none_out v copies replies results moved fh =
      let whole = counts fh in
      let change = moved fh in
      let sent = ap (replies_carry fh) replies in
      let back : results_carry fh v.server v.results ≡ results_carry fh w.server w.results =
      λ i. sum_by (λ (r : ReplyResult). refused r.result (carried (opens_in fh) (get (copies i) r.number)))
      (results i) in
      omega (arith, whole, change, sent, back)

  -- ---- requests are taken

  module _ (rises : Rises w.server.held) (k unique : ℕ) (body : RequestBody)
      (there : slice_get w.requests k ≡ Some (record { unique = unique; body = body })) where
    -- A request leaves the link, and the RELEASE is held, if it is one.
    left_sum : (held : Map HeldRequest) (f : Opened → ℕ) → held_sum f held ≡ held_sum f w.server.held + body_sum f body
        → (s : Server) → s.held ≡ held → sum_by f (open_files
        (record w { requests = without_at w.requests k; server = s })) ≡ sum_by f (open_files w)
    left_sum held f more s is =
        let before = open_sum f w in
        let after = open_sum f (record w { requests = without_at w.requests k; server = s }) in
        let less = sum_removed (λ (r : Request). body_sum f r.body) w.requests k
        (record { unique = unique; body = body }) there in
        let same = ap (held_sum f) is in
        omega (arith, before, after, less, same, more)

    held_more : get w.server.held unique ≡ None → (t : HeldRequest) (f : Opened → ℕ)
        → held_sum f (put w.server.held unique t) ≡ held_sum f w.server.held + body_sum f t.body
    held_more none t f =
        let more = sum_put (λ (x : HeldRequest). body_sum f x.body) w.server.held unique t rises in
        let no_old = ap (worth (λ (x : HeldRequest). body_sum f x.body)) none in
        omega (arith, more, no_old)

    marked_same : (original : ℕ) (t : HeldRequest) → get w.server.held original ≡ Some t → (f : Opened → ℕ)
        → held_sum f (put w.server.held original (record t { marked = true })) ≡ held_sum f w.server.held
    marked_same original t at f =
        let more = sum_put (λ (x : HeldRequest). body_sum f x.body) w.server.held original
        (record t { marked = true }) rises in
        let old = ap (worth (λ (x : HeldRequest). body_sum f x.body)) at in
        omega (arith, more, old)

  pub taken_sum : Rises w.server.held → (k unique : ℕ) (body : RequestBody)
      → slice_get w.requests k ≡ Some (record { unique = unique; body = body }) → BearsNumber unique body
      → (unique % 2 ≡ 0 → get w.server.held unique ≡ None) → (f : Opened → ℕ)
      → sum_by f (open_files (after_take w k unique (taking w.server unique body))) ≡ sum_by f (open_files w)
  taken_sum rises k unique (init flags) there bears none f =
      left_sum rises k unique (init flags) there _ f (held_more rises k unique (init flags) there (none bears) _ f)
      (taking w.server unique (init flags)).server refl
  taken_sum rises k unique (asks operation) there bears none f =
      left_sum rises k unique (asks operation) there _ f
      (held_more rises k unique (asks operation) there (none bears) _ f)
      (taking w.server unique (asks operation)).server refl
  taken_sum rises k unique (release o) there bears none f =
      left_sum rises k unique (release o) there _ f (held_more rises k unique (release o) there (none bears) _ f)
      (taking w.server unique (release o)).server refl
  taken_sum rises k unique (forget x) there bears none f =
      left_sum rises k unique (forget x) there w.server.held f (omega arith)
      (taking w.server unique (forget x)).server refl
  taken_sum rises k unique (batch_forget xs) there bears none f =
      left_sum rises k unique (batch_forget xs) there w.server.held f (omega arith)
      (taking w.server unique (batch_forget xs)).server refl
  taken_sum rises k unique (interrupt original) there bears none f =
      by (get w.server.held original) refl (get w.server.kept original)
    where
      by : (h : Option HeldRequest) → get w.server.held original ≡ h → (o : Option Kept)
          → sum_by f (open_files (after_take w k unique (interrupting w.server unique original h o)))
          ≡ sum_by f (open_files w)
      by (Some t) at o =
          let same = marked_same rises k unique (interrupt original) there original t at f in
          left_sum rises k unique (interrupt original) there _ f (omega (arith, same))
          (interrupting w.server unique original (Some t) o).server refl
      by None at (Some x) = left_sum rises k unique (interrupt original) there w.server.held f
          (omega arith) w.server refl
      by None at None = left_sum rises k unique (interrupt original) there w.server.held f (omega arith)
          (interrupting w.server unique original None None).server refl

  pub taken_counts : (k unique : ℕ) (body : RequestBody)
      → ((f : Opened → ℕ) → sum_by f (open_files (after_take w k unique (taking w.server unique body)))
      ≡ sum_by f (open_files w)) → CountsOpens (after_take w k unique (taking w.server unique body))
  taken_counts k unique (init flags) same = none_out
      (after_take w k unique (taking w.server unique (init flags))) refl refl refl
      (λ fh. let sum = same (has_handle fh) in omega (arith, sum))
  taken_counts k unique (asks operation) same = none_out
      (after_take w k unique (taking w.server unique (asks operation))) refl refl refl
      (λ fh. let sum = same (has_handle fh) in omega (arith, sum))
  taken_counts k unique (release o) same = none_out
      (after_take w k unique (taking w.server unique (release o))) refl refl refl
      (λ fh. let sum = same (has_handle fh) in omega (arith, sum))
  taken_counts k unique (forget x) same = none_out
      (after_take w k unique (taking w.server unique (forget x))) refl refl refl
      (λ fh. let sum = same (has_handle fh) in omega (arith, sum))
  taken_counts k unique (batch_forget xs) same = none_out
      (after_take w k unique (taking w.server unique (batch_forget xs))) refl refl refl
      (λ fh. let sum = same (has_handle fh) in omega (arith, sum))
  taken_counts k unique (interrupt original) same_sum =
      by (get w.server.held original) (get w.server.kept original) same_sum
    where
      by : (h : Option HeldRequest) (o : Option Kept) →
          ((f : Opened → ℕ) → sum_by f (open_files (after_take w k unique (interrupting w.server unique original h o)))
          ≡ sum_by f (open_files w)) → CountsOpens (after_take w k unique (interrupting w.server unique original h o))
      by (Some t) o same = none_out (after_take w k unique
          (interrupting w.server unique original (Some t) o)) refl refl refl
          (λ fh. let sum = same (has_handle fh) in omega (arith, sum))
      by None (Some x) same = none_out (after_take w k unique
          (interrupting w.server unique original None (Some x))) refl refl refl
          (λ fh. let sum = same (has_handle fh) in omega (arith, sum))
      by None None same = copy_out (after_take w k unique (interrupting w.server unique original None None))
          (record { unique = unique; wire = failed 11; first = w.server.next_copy }) refl refl refl
          (λ fh. let sum = same (has_handle fh) in omega (arith, sum))

  -- ---- more copies

  pub again_counts : (unique : ℕ) (kept : Kept) → is_current w.server kept.wire ≡ true
      → CountsOpens (after_again w unique kept)
  again_counts unique kept current =
      copy_out (after_again w unique kept) (record {
        unique = unique;
        wire = kept.wire;
        first = kept.first;
      }) refl refl refl
      (λ fh. let more = counted_counts w.server.handles kept.wire
      (second (list_all (λ (g : Entry). is_held w.server.nodes g.nodeid g.generation) (files_in_reply kept.wire))
      (list_all (λ (n : ℕ). is_some (get w.server.handles.handles n)) (opens_in_reply kept.wire)) current) fh in
      omega (arith, more))
    where
      second : (a b : Bool) → (a && b) ≡ true → b ≡ true
      second true b e = e
      second false b e = absurd (true≢false (sym e))

  -- ---- copies are settled

  module _ (k : ℕ) (result : ReplyResult) (there : slice_get w.results k ≡ Some result) where
    -- what the other refused copies carry
    refused_less : (fh : ℕ) → results_carry fh w.server (without_at w.results k) + refused result.result
        (carried (opens_in fh) (get w.server.copies result.number)) ≡ results_carry fh w.server w.results
    refused_less fh = sum_removed (result_carries (opens_in fh) w.server) w.results k result there

    abbrev left : Map Copy
    left = remove w.server.copies result.number

    same_others : (fh : ℕ) (s : Server) → s.copies ≡ left
        → results_carry fh s (without_at w.results k) ≡ results_carry fh w.server (without_at w.results k)
    same_others fh s is =
        sum_same (result_carries (opens_in fh) s) (result_carries (opens_in fh) w.server) (without_at w.results k)
        (λ i r lt.
        let n = (get_or (without_at w.results k) i r).number in
        ap (λ (o : Option Copy). refused (get_or (without_at w.results k) i r).result (carried (opens_in fh) o))
        (ap (λ (m : Map Copy). get m n) is ∙ get_gone_there w.server.copies result.number n
        (results_apart w sound k result there i r lt)))

    refused_none : (r : WriteResult) → refused r 0 ≡ 0
    refused_none Accepted = refl
    refused_none NoEntry = refl
    refused_none Invalid = refl

    module _ (copy : Copy) (known : get w.server.copies result.number ≡ Some copy) where
      abbrev less : Server
      less = record w.server { copies = left; kept = kept_after w.server.kept copy (get w.server.kept copy.unique) }

      accepted_counts : result.result ≡ Accepted → CountsOpens
          (record w { results = without_at w.results k; server = less })
      accepted_counts good fh =
          let whole = counts fh in
          let fewer = refused_less fh in
          let same = same_others fh less refl in
          let nothing : refused result.result (carried (opens_in fh) (get w.server.copies result.number)) ≡ 0 =
          ap (λ (r : WriteResult). refused r (carried (opens_in fh) (get w.server.copies result.number))) good in
          omega (arith, whole, fewer, same, nothing)

      refused_counts : ((n : ℕ) → refused result.result n ≡ n)
          → CountsOpens (record w { results = without_at w.results k; server = given_back less copy.wire })
      refused_counts all fh =
          let whole = counts fh in
          let fewer = refused_less fh in
          let same = same_others fh (given_back less copy.wire) refl in
          let carries : refused result.result (carried (opens_in fh) (get w.server.copies result.number))
          ≡ opens_in fh copy.wire = all _ ∙ ap (carried (opens_in fh)) known in
          let back = given_back_counts w.server.handles copy.wire fh in
          omega (arith, whole, fewer, same, carries, back)

      by_result : (r : WriteResult) → result.result ≡ r
          → CountsOpens (record w { results = without_at w.results k; server = after_result less copy.wire r })
      by_result Accepted e = accepted_counts e
      by_result NoEntry e = refused_counts (λ n. ap (λ (r : WriteResult). refused r n) e)
      by_result Invalid e = refused_counts (λ n. ap (λ (r : WriteResult). refused r n) e)

    pub settled_counts : CountsOpens (after_settle w k result (get w.server.copies result.number))
    settled_counts = by (get w.server.copies result.number) refl
      where
        by : (o : Option Copy) → get w.server.copies result.number ≡ o → CountsOpens (after_settle w k result o)
        by None none = λ fh.
            let whole = counts fh in
            let fewer = refused_less fh in
            let nothing : refused result.result (carried (opens_in fh) (get w.server.copies result.number)) ≡ 0 =
            ap (λ (o : Option Copy). refused result.result (carried
            (opens_in fh) o)) none ∙ refused_none result.result in
            omega (arith, whole, fewer, nothing)
        by (Some copy) known = by_result copy known result.result refl
