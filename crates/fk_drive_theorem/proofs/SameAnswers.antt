-- That two answers are equal holds as soon as it is not false.
use Rattle.std.proofs.Common.{◌≡◌, ℕ, List, refl, ap}
use Rattle.fuse_spec.specs.declared.Attributes.{Attributes}
use Rattle.fuse_spec.specs.declared.Kind.{Kind}
use Rattle.fuse_spec.specs.declared.Kind.TheVariants as kind
use Rattle.fuse_spec.specs.Files.Operations.{Dirent}
use Rattle.fuse_spec.specs.Calls.Answers.{Answer, attributes, listing, content, written, done, failed}
use Rattle.fk_drive_theorem.proofs.Stable.{Stable, same_number, same_list}

same_kind : (a b : Kind) → Stable (a ≡ b)
same_kind kind.Directory kind.Directory s = refl
same_kind kind.Regular kind.Regular s = refl
same_kind kind.Other kind.Other s = refl
same_kind a b s = absurd (s (λ e. cc e))

same_attributes : (a b : Attributes) → Stable (a ≡ b)
same_attributes a b s =
    let kinds = same_kind a.kind b.kind (λ ne. s (λ e. ne (ap (λ (x : Attributes). x.kind) e))) in
    let inos = same_number a.ino b.ino (λ ne. s (λ e. ne (ap (λ (x : Attributes). x.ino) e))) in
    let sizes = same_number a.size b.size (λ ne. s (λ e. ne (ap (λ (x : Attributes). x.size) e))) in
    let links = same_number a.nlink b.nlink (λ ne. s (λ e. ne (ap (λ (x : Attributes). x.nlink) e))) in
    λ i. record { kind = kinds i; ino = inos i; size = sizes i; nlink = links i }

same_dirent : (a b : Dirent) → Stable (a ≡ b)
same_dirent a b s =
    let inos = same_number a.ino b.ino (λ ne. s (λ e. ne (ap (λ (x : Dirent). x.ino) e))) in
    let offsets = same_number a.offset b.offset (λ ne. s (λ e. ne (ap (λ (x : Dirent). x.offset) e))) in
    let kinds = same_kind a.kind b.kind (λ ne. s (λ e. ne (ap (λ (x : Dirent). x.kind) e))) in
    let names = same_list same_number a.name b.name (λ ne. s (λ e. ne (ap (λ (x : Dirent). x.name) e))) in
    λ i. record { ino = inos i; offset = offsets i; kind = kinds i; name = names i }

pub same_answer : (a b : Answer) → Stable (a ≡ b)
same_answer (attributes x) (attributes y) s = ap (λ (z : Attributes). attributes z)
    (same_attributes x y (λ ne. s (λ e. ne (cc e))))
same_answer (listing x) (listing y) s = ap (λ (z : List Dirent). listing z)
    (same_list same_dirent x y (λ ne. s (λ e. ne (cc e))))
same_answer (content x) (content y) s = ap (λ (z : List ℕ). content z)
    (same_list same_number x y (λ ne. s (λ e. ne (cc e))))
same_answer (written x) (written y) s = ap (λ (z : ℕ). written z) (same_number x y (λ ne. s (λ e. ne (cc e))))
same_answer done done s = refl
same_answer (failed x) (failed y) s = ap (λ (z : ℕ). failed z) (same_number x y (λ ne. s (λ e. ne (cc e))))
same_answer a b s = absurd (s (λ e. cc e))
