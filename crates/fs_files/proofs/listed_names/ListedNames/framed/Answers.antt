use Rattle.std.proofs.Common.{◌∙◌, ℕ, List, length, map, sym, subst, ap}
use Rattle.fuse_spec.specs.Files.Operations as reply
use Rattle.fuse_spec.specs.declared.Entry.{Entry}
use Rattle.fuse_frames.specs.ReplyTies.{AreWritten, direntpluses_of, dirent_read}
use Rattle.fs_files.specs.Listed.{dirents_in}
use Rattle.fs_files.proofs.listed_names.ListedNames.framed.Goals as goal

pub listed_plus-requires-clause-written : goal.listed_plus-requires-clause-written
listed_plus-requires-clause-written g c =
    let ds = dirents_in c.args.self.now.records.items in (
      ds,
      subst (λ (bytes : List ℕ). AreWritten ds bytes) (sym c.deref-2.ensures.value) c.args.self.now.are_records,
      ap (λ (es : List Entry). length es) c.deref.ensures.value ∙ c.args.self.now.together,
    )

pub returns : goal.returns
returns g c =
    let ds = dirents_in c.args.self.now.records.items in
    c.listed_plus.ensures ds
    (subst (λ (bytes : List ℕ). AreWritten ds bytes) (sym c.deref-2.ensures.value) c.args.self.now.are_records)
    (ap (λ (es : List Entry). length es) c.deref.ensures.value ∙ c.args.self.now.together)
    ∙ ap (λ (es : List Entry). record {
      unique = c.args.unique;
      wire = reply.listed_plus (direntpluses_of c.args.self.now.found_ms es (map dirent_read ds));
    }) c.deref.ensures.value
