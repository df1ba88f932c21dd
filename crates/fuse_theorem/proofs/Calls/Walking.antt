-- Walks over files that are named in two ways, alike under R, come to the same.
use Rattle.std.proofs.Common.{◌≡◌, List, [], ◌∷◌, Option, Some, None, refl, subst}
use Rattle.std.specs.Prelude.{unwrap_or}
use Rattle.fuse_spec.specs.Calls.Paths.{Name}
use Rattle.fuse_spec.specs.Calls.Walks.{FinalOperation, WalkPlan, last, rename, link, WalkStop, unknown, missing, arrived, go, Walked, looks_up, finds_none, asks, after_last, after_stop, walk, operation_at}
use Rattle.fuse_spec.specs.Files.Operations as op
use Rattle.fuse_spec.specs.Claim.Denotes.{FinalAlike, WalkPlanAlike}
use Rattle.fuse_spec.specs.Files.Operations.{lookup, getattr, mkdir, create, unlink, rmdir, opening, readdir, readdirplus, read, write, OptionAlike, OperationAlike}

module _ {F O G P : Type 0} (R : F → G → Type 0) (S : O → P → Type 0) where
  -- where a walk stops
  abbrev pub WalkStopAlike : WalkStop F → WalkStop G → Type 0
  WalkStopAlike (unknown d word words) (unknown e word' words') = R d e × (word ≡ word') × (words ≡ words')
  WalkStopAlike missing missing = Unit {0}
  WalkStopAlike (arrived x) (arrived y) = R x y
  WalkStopAlike a b = ⊥

  -- the result of a walk
  abbrev pub WalkedAlike : Walked F O → Walked G P → Type 0
  WalkedAlike (looks_up d word words plan) (looks_up e word' words' plan') =
      R d e × (word ≡ word') × (words ≡ words') × WalkPlanAlike R plan plan'
  WalkedAlike finds_none finds_none = Unit {0}
  WalkedAlike (asks a) (asks b) = OperationAlike R S a b
  WalkedAlike a b = ⊥

  -- The cached names lead alike.
  abbrev pub LookAlike : (F → Name → Option (Option F)) → (G → Name → Option (Option G)) → Type 0
  LookAlike look see = (d : F) (e : G) (name : Name) → R d e → OptionAlike (OptionAlike R) (look d name) (see e name)

  module _ (look : F → Name → Option (Option F)) (see : G → Name → Option (Option G)) (leads : LookAlike look see) where
    step_alike : (word : Name) (words : List Name) (d : F) (e : G) (a : Option (Option F)) (b : Option (Option G))
        → R d e → OptionAlike (OptionAlike R) a b
        → ((x : F) (y : G) → R x y → WalkStopAlike (go look x words) (go see y words))
        → WalkStopAlike (elim a [ None ↦ unknown d word words | Some found ↦ elim found [ None ↦ missing | Some file ↦ go look file words ] ])
        (elim b [ None ↦ unknown e word words | Some found ↦ elim found [ None ↦ missing | Some file ↦ go see file words ] ])
    step_alike word words d e None None r h on = (r, refl, refl)
    step_alike word words d e (Some None) (Some None) r h on = tt
    step_alike word words d e (Some (Some x)) (Some (Some y)) r h on = on x y h
    step_alike word words d e None (Some y) r h on = absurd h
    step_alike word words d e (Some x) None r h on = absurd h
    step_alike word words d e (Some None) (Some (Some y)) r h on = absurd h
    step_alike word words d e (Some (Some x)) (Some None) r h on = absurd h

    -- Along the same words, from files that are alike, walks stop alike.
    pub go_alike : (words : List Name) (d : F) (e : G) → R d e → WalkStopAlike (go look d words) (go see e words)
    go_alike [] d e r = r
    go_alike (word ∷ words) d e r = step_alike word words d e (look d word) (see e word) r (leads d e word r)
        (λ x y h. go_alike words x y h)

    -- where both name none, the files to which the walks led
    named_alike : (a : Option F) (b : Option G) (x : F) (y : G) → OptionAlike R a b → R x y
        → R (unwrap_or a x) (unwrap_or b y)
    named_alike None None x y h r = r
    named_alike (Some a) (Some b) x y h r = h
    named_alike None (Some b) x y h r = absurd h
    named_alike (Some a) None x y h r = absurd h

    pub operation_alike : (a : FinalOperation F) (b : FinalOperation G) (x : F) (y : G) → FinalAlike R a b → R x y
        → OperationAlike {O = O} {P = P} R S (operation_at a x) (operation_at b y)
    operation_alike (lookup d name) (lookup e other) x y h r = (named_alike d e x y h.0 r, h.1)
    operation_alike (mkdir d name) (mkdir e other) x y h r = (named_alike d e x y h.0 r, h.1)
    operation_alike (create d name) (create e other) x y h r = (named_alike d e x y h.0 r, h.1)
    operation_alike (unlink d name) (unlink e other) x y h r = (named_alike d e x y h.0 r, h.1)
    operation_alike (rmdir d name) (rmdir e other) x y h r = (named_alike d e x y h.0 r, h.1)
    operation_alike (getattr a) (getattr b) x y h r = named_alike a b x y h r
    operation_alike (opening a) (opening b) x y h r = named_alike a b x y h r
    operation_alike (readdir d after size) (readdir e after' size') x y h r = (named_alike d e x y h.0 r, h.1, h.2)
    operation_alike (readdirplus d after size) (readdirplus e after' size') x y h r = (named_alike d e x y h.0 r, h.1, h.2)
    operation_alike (op.rename d old e new) (op.rename d' old' e' new') x y h r =
        (named_alike d d' x y h.0 r, h.1, named_alike e e' x y h.2 r, h.3)
    operation_alike (op.link a d name) (op.link b e other) x y h r =
        (named_alike a b x y h.0 r, named_alike d e x y h.1 r, h.2)
    operation_alike (read o offset size) b x y h r = elim o [ ]
    operation_alike (write o offset bytes) b x y h r = elim o [ ]
    operation_alike a b x y h r = absurd h

    last_alike : (a : FinalOperation F) (b : FinalOperation G) (s : WalkStop F) (t : WalkStop G) → FinalAlike R a b
        → WalkStopAlike s t → WalkedAlike (after_last a s) (after_last b t)
    last_alike a b (unknown d word words) (unknown e word' words') h r = (r.0, r.1, r.2, h)
    last_alike a b missing missing h r = tt
    last_alike a b (arrived x) (arrived y) h r = operation_alike a b x y h r
    last_alike a b s t h r = absurd r

    module _ (root : F) (root' : G) (roots : R root root') where
      second_alike : (a : FinalOperation F) (b : FinalOperation G) (words words' : List Name) → FinalAlike R a b
          → words ≡ words' → WalkedAlike (after_last a (go look root words)) (after_last b (go see root' words'))
      second_alike a b words words' h same =
          subst (λ (ws : List Name). WalkedAlike (after_last a (go look root words))
          (after_last b (go see root' ws))) same
          (last_alike a b (go look root words) (go see root' words) h (go_alike words root root' roots))

      stop_alike : (x : WalkPlan F) (y : WalkPlan G) (s : WalkStop F) (t : WalkStop G) → WalkPlanAlike R x y
          → WalkStopAlike s t → WalkedAlike (after_stop look root x s) (after_stop see root' y t)
      stop_alike x y (unknown d word words) (unknown e word' words') h r = (r.0, r.1, r.2, h)
      stop_alike x y missing missing h r = tt
      stop_alike (last a) (last b) (arrived d) (arrived e) h r = operation_alike a b d e h r
      stop_alike (rename old words new) (rename old' words' new') (arrived d) (arrived e) h r =
          second_alike (op.rename (Some d) old None new) (op.rename (Some e) old' None new') words words' (r, h.0, tt, h.2) h.1
      stop_alike (link words name) (link words' name') (arrived d) (arrived e) h r =
          second_alike (op.link (Some d) None name) (op.link (Some e) None name') words words' (r, tt, h.1) h.0
      stop_alike x y (unknown d word words) missing h r = absurd r
      stop_alike x y (unknown d word words) (arrived e) h r = absurd r
      stop_alike x y missing (unknown e word words) h r = absurd r
      stop_alike x y missing (arrived e) h r = absurd r
      stop_alike x y (arrived d) (unknown e word words) h r = absurd r
      stop_alike x y (arrived d) missing h r = absurd r
      stop_alike (last a) (rename old words new) (arrived d) (arrived e) h r = absurd h
      stop_alike (last a) (link words name) (arrived d) (arrived e) h r = absurd h
      stop_alike (rename old words new) (last a) (arrived d) (arrived e) h r = absurd h
      stop_alike (rename old words new) (link words' name) (arrived d) (arrived e) h r = absurd h
      stop_alike (link words name) (last a) (arrived d) (arrived e) h r = absurd h
      stop_alike (link words name) (rename old words' new) (arrived d) (arrived e) h r = absurd h

      -- Whole walks, along the same words on the same plan, come to the same.
      pub walk_alike : (d : F) (e : G) (words words' : List Name) (x : WalkPlan F) (y : WalkPlan G) → R d e
          → words ≡ words' → WalkPlanAlike R x y
          → WalkedAlike (walk look root d words x) (walk see root' e words' y)
      walk_alike d e words words' x y r same h =
          subst (λ (ws : List Name). WalkedAlike (walk look root d words x) (walk see root' e ws y)) same
          (stop_alike x y (go look d words) (go see e words) h (go_alike words d e r))
