-- Over a link in order a session's link is lost where its count of failures rises, and nowhere else.
use Rattle.std.proofs.Common.{◌≡◌, ℕ, true, false, List, refl, sym, subst, ◌∙◌}
use Rattle.fuse_spec.specs.declared.Taken.TheVariants.{Again}
use Rattle.fuse_spec.specs.World.Worlds.{World}
use Rattle.fuse_spec.specs.World.Events.{Event, Outcome, is_read, taken, performed, sent_again, written}
use Rattle.fuse_spec.specs.World.Records.{Record, collected}
use Rattle.fuse_spec.specs.Claim.Sessions.{Session, linked, lost}
use Rattle.fw_link.specs.Traffic.{HasFailed, IsInOrder, IsWhole, Traffic, no_traffic}
use Rattle.fw_link.proofs.Fronts.{all_got, front_of_all, in_order_front}
use Rattle.fw_world.specs.Sends.{Carries, IsLostOn, IsSent, LosesEnvelope, Sending, sending_bytes}
use Rattle.fw_world.specs.OverLinks.{RecordedOver, none_left, one_refused, one_accepted, one_lost, one_too_late}

module _ {L : Type 0} (carries : L → L → Traffic → Type 0) (failed : L → ℕ) where
  -- After the loss nothing is sent.
  lost_link_stays : (s after : Session) (link last : L) (events : List Event) (rs : List Record)
      → RecordedOver carries failed s link events rs after last → s.is_lost ≡ true → last ≡ link
  lost_link_stays s after link last events rs (none_left v l) gone = refl
  lost_link_stays s after link last events rs (one_refused w l e refusal rest records v end judged old) gone =
      absurd (cc (gone))
  lost_link_stays s after link last events rs
      (one_accepted w l e o moved step rest records v end happens sent same old) gone = absurd (cc (gone))
  lost_link_stays s after link last events rs
      (one_lost w l e o moved away step rest records v end happens lose aborts old) gone = absurd (cc (gone))
  lost_link_stays s after link last events rs (one_too_late w l e rest records v end old) gone =
      lost_link_stays (lost w) v l end rest records old refl

  lost_stays : (s after : Session) (link last : L) (events : List Event) (rs : List Record)
      → RecordedOver carries failed s link events rs after last → s.is_lost ≡ true → after.is_lost ≡ true
  lost_stays s after link last events rs (none_left v l) gone = gone
  lost_stays s after link last events rs (one_refused w l e refusal rest records v end judged old) gone =
      absurd (cc (gone))
  lost_stays s after link last events rs
      (one_accepted w l e o moved step rest records v end happens sent same old) gone = absurd (cc (gone))
  lost_stays s after link last events rs
      (one_lost w l e o moved away step rest records v end happens lose aborts old) gone = absurd (cc (gone))
  lost_stays s after link last events rs (one_too_late w l e rest records v end old) gone =
      lost_stays (lost w) v l end rest records old refl

  -- While the link is not lost its count of failures stays.
  pub not_failed : (s after : Session) (link last : L) (events : List Event) (rs : List Record)
      → RecordedOver carries failed s link events rs after last → after.is_lost ≡ false → failed last ≡ failed link
  not_failed s after link last events rs (none_left v l) kept = refl
  not_failed s after link last events rs (one_refused w l e refusal rest records v end judged old) kept =
      not_failed (linked w) v l end rest records old kept
  not_failed s after link last events rs
      (one_accepted w l e o moved step rest records v end happens sent same old) kept =
      not_failed (linked (collected moved)) v step end rest records old kept ∙ same
  not_failed s after link last events rs
      (one_lost w l e o moved away step rest records v end happens lose aborts old) kept =
      let gone = lost_stays (lost (collected away)) v step end rest records old refl in absurd (cc (gone, kept))
  not_failed s after link last events rs (one_too_late w l e rest records v end old) kept =
      let gone = lost_stays (lost w) v l end rest records old refl in absurd (cc (gone, kept))

  module _ (is_idle : L → Type 0) (in_order : (first last : L) (h : Traffic) → is_idle first → carries first last h
      → IsInOrder h)
      (stays_idle : (first last : L) (h : Traffic) → is_idle first → carries first last h → IsWhole h
      → is_idle last) where
    through : (Sends : Sending → Type 0) (first last : L) → is_idle first → Carries Sends (carries first last)
        → is_idle last
    through Sends first last idle c = stays_idle first last _ idle c.carried
        (all_got c.envelope.from (sending_bytes c.envelope))

    -- What came through leaves nothing outstanding.
    idle_after : (w : World) (o : Outcome) (first last : L) → is_idle first → IsSent w o (carries first last)
        → is_idle last
    idle_after w (is_read unique) first last idle sent = through _ first last idle sent
    idle_after w (taken unique Again) first last idle sent = through _ first last idle sent
    idle_after w (performed unique errno false) first last idle sent = through _ first last idle sent
    idle_after w (sent_again unique) first last idle sent = through _ first last idle sent
    idle_after w (written unique result) first last idle sent = through _ first last idle sent
    idle_after w o first last idle sent = stays_idle first last no_traffic idle sent
        (record { to_kernel = refl; to_server = refl })

    counted : (Sends : Sending → Type 0) (first last : L) → is_idle first
        → LosesEnvelope Sends (carries first last) (failed first) (failed last) → HasFailed (failed first) (failed last)
    counted Sends first last idle l =
        let gone = l.is_lost in
        gone.counted (front_of_all gone.put_len (sending_bytes l.envelope) gone.got
        (in_order_front l.envelope.from _ gone.got (in_order first last _ idle gone.carried)))

    -- What was lost was counted.
    failed_in : (w : World) (o : Outcome) (first last : L) → is_idle first
        → IsLostOn w o (carries first last) (failed first) (failed last) → HasFailed (failed first) (failed last)
    failed_in w (is_read unique) first last idle gone = counted _ first last idle gone
    failed_in w (taken unique Again) first last idle gone = counted _ first last idle gone
    failed_in w (performed unique errno false) first last idle gone = counted _ first last idle gone
    failed_in w (sent_again unique) first last idle gone = counted _ first last idle gone
    failed_in w (written unique result) first last idle gone = counted _ first last idle gone
    failed_in w o first last idle gone = absurd gone

    pub has_failed : (s after : Session) (link last : L) (events : List Event) (rs : List Record)
        → RecordedOver carries failed s link events rs after last → is_idle link → s.is_lost ≡ false
        → after.is_lost ≡ true
        → HasFailed (failed link) (failed last)
    has_failed s after link last events rs (none_left v l) idle before gone = absurd (cc (before, gone))
    has_failed s after link last events rs (one_refused w l e refusal rest records v end judged old) idle before gone =
        has_failed (linked w) v l end rest records old idle refl gone
    has_failed s after link last events rs
        (one_accepted w l e o moved step rest records v end happens sent same old) idle before gone =
        subst (λ (n : ℕ). HasFailed n (failed end)) same
        (has_failed (linked (collected moved)) v step end rest records old
        (idle_after moved o l step idle sent) refl gone)
    has_failed s after link last events rs
        (one_lost w l e o moved away step rest records v end happens lose aborts old) idle before gone =
        let same = lost_link_stays (lost (collected away)) v step end rest records old refl in
        let now = failed_in moved o l step idle lose in
        subst (λ (x : L). HasFailed (failed l) (failed x)) (sym same) now
    has_failed s after link last events rs (one_too_late w l e rest records v end old) idle before gone =
        absurd (cc (before))
