-- A reply reaches a call of the plain world, in its own words.
use Rattle.std.proofs.Common.{◌≡◌, ℕ, Bool, true, false, cond, List, [], ◌∷◌, Option, Some, None, refl}
use Rattle.fuse_spec.specs.Files.Operations.{Operation, Reply, DirentPlus}
use Rattle.fuse_spec.specs.Calls.Paths.{is_dots}
use Rattle.fuse_spec.specs.Files.Operations as op
use Rattle.fuse_spec.specs.Calls.Vfs.{CallState, walking, doing, using, Vfs, walks_on, bound}
use Rattle.fuse_spec.specs.Calls.CallReplies.{name_listed, names_listed, all_bound, operation_replied, call_replied}
use Rattle.fuse_spec.specs.Reference.PlainCalls.{ComeIntoForce, Answers, ReceivesReply}
use Rattle.fuse_spec.specs.Reference.PlainCalls as plain
use Rattle.fuse_theorem.proofs.PlainWorld.PlainWalks.{goes_on}

module _ (c : Vfs ℕ) (number : ℕ) where
  -- Names of a list come into force as they do in words.
  come_into_force : (directory : ℕ) (pairs : List (DirentPlus ℕ)) (d : Vfs ℕ)
      → ComeIntoForce directory d pairs (all_bound d directory pairs)
  come_into_force directory [] d = plain.none_left d
  come_into_force directory (pair ∷ pairs) d = by (is_dots pair.dirent.name) refl pair.file refl
      (come_into_force directory pairs)
    where
      by : (b : Bool) → is_dots pair.dirent.name ≡ b → (o : Option ℕ) → pair.file ≡ o
          → ((e : Vfs ℕ) → ComeIntoForce directory e pairs (all_bound e directory pairs))
          → ComeIntoForce directory d (pair ∷ pairs) (record d {
            names =
                names_listed d.clock directory (name_listed d.clock directory d.names pair (cond b None o)) pairs;
          })
      by true dots o file rest = plain.is_dot d pair pairs (all_bound d directory pairs) dots (rest d)
      by false dots None file rest = plain.has_no_file d pair pairs (all_bound d directory pairs) file (rest d)
      by false dots (Some x) file rest =
          let next = bound d directory pair.dirent.name (Some x) pair.valid in
          plain.comes d pair pairs x (all_bound next directory pairs) dots file (rest next)

  -- The reply to a call's own operation is answered as it is in words.
  answers : (operation : Operation ℕ ℕ) (reply : Reply ℕ ℕ)
      → Answers c number operation reply (operation_replied c number operation reply)
  answers operation (op.failed errno) = plain.has_failed operation errno
  answers (op.getattr file) (op.attributes a) = plain.attributes_are file a
  answers (op.mkdir directory name) (op.found file valid) = plain.is_made directory name file valid
  answers (op.create directory name) (op.created file valid opened) = plain.is_created directory name file valid opened
  answers (op.link linked directory name) (op.found file valid) = plain.is_linked linked directory name file valid
  answers (op.unlink directory name) op.done = plain.is_unlinked directory name
  answers (op.rmdir directory name) op.done = plain.is_removed directory name
  answers (op.rename directory old newdir new) op.done = plain.is_renamed directory old newdir new
  answers (op.opening file) (op.opened opened) = plain.is_opened file opened
  answers (op.readdir directory after size) (op.listed records) = plain.names_are directory after size records
  answers (op.readdirplus directory after size) (op.listed_plus pairs) =
      plain.names_and_files_are directory after size pairs (all_bound c directory pairs)
      (come_into_force directory pairs c)
  answers (op.read file offset size) (op.content bytes) = plain.content_is file offset size bytes
  answers (op.write file offset bytes) (op.written size) = plain.is_written file offset bytes size
  answers operation reply = plain.is_no_reply operation reply refl

  -- A reply reaches the call as it does in words.
  pub receives : (state : CallState ℕ) (reply : Reply ℕ ℕ)
      → ReceivesReply c number state reply (call_replied c number state reply).vfs
      (call_replied c number state reply).operation
  receives (walking directory word words plan) (op.found file valid) =
      let known = bound c directory word (Some file) valid in
      let went = walks_on known number file words plan in
      ReceivesReply.is_found directory word words plan file valid went.vfs went.operation
      (goes_on known number file words plan)
  receives (walking directory word words plan) (op.missing valid) = plain.is_missing directory word words plan valid
  receives (walking directory word words plan) (op.failed errno) = plain.is_not_delivered directory word words plan errno
  receives (walking directory word words plan) reply = plain.is_odd directory word words plan reply refl
  receives (doing operation) reply = plain.of_operation operation reply (operation_replied c number operation reply)
      (answers operation reply)
  receives (using open_call operation) reply = plain.of_open_file open_call operation reply
      (operation_replied c number operation reply) (answers operation reply)
