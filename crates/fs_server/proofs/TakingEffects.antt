-- What becomes of a request that nothing refuses but out of memory.
use Rattle.std.proofs.Common.{◌≡◌, ℕ, ◌+◌, ◌<◌, ◌≤◌, ◌^◌, Bool, true, false, true≢false, not, ◌||◌, List, [], ◌∷◌, Option, Some, None, Result, Ok, Err, refl, sym, ap, ◌∙◌, arith, inr}
use Rattle.std.specs.Prelude.{IfErr, IfOk, OnOk, MatchResult, is_some, nat_lt}
use Rattle.std.proofs.lemmas.Bool.{le-ltb}
use Rattle.fuse_spec.specs.Values.Maps.{get}
use Rattle.fuse_spec.specs.Kernel.Messages.{Forget, RequestBody, init, asks, release, forget, batch_forget, interrupt}
use Rattle.fuse_spec.specs.Server.Nodes.{NodeTable, taken_back}
use Rattle.fuse_spec.specs.Values.Numbers.{counter_end, eagain}
use Rattle.fuse_spec.specs.Files.Operations.{failed}
use Rattle.fuse_spec.specs.Server.Server.{Server, HeldRequest, Kept, holding, forgetting, sending, all_taken_back}
use Rattle.fuse_spec.specs.Server.Taking.{interrupting, taking}
use Rattle.fuse_spec.specs.declared.Taken.TheVariants.{Held}
use Rattle.fk_wire.specs.Requests as wire
use Rattle.fk_wire.specs.Requests.{RequestContent, RequestMessage, Spells}
use Rattle.fuse_frames.specs.RequestTies.{body_in}
use Rattle.fs_server.specs.declared.server.ServerFault.{ServerFault}
use Rattle.fs_server.specs.declared.server.ServerFault.TheVariants.{Memory}
use Rattle.fs_server.specs.declared.server.ServerFault.TheVariants as fault
use Rattle.fs_server.specs.declared.server.Taken.{Taken}
use Rattle.fuse_spec.specs.Server.Refusals.{is_server_past_end}
use Rattle.fs_server.specs.Effects.{CanTake, TakesFrame, RefusesFrame, past_or_memory, request_fault}
use Rattle.fs_server.specs.Interrupts.{Interrupts}
use Rattle.fs_server.specs.Taking.{IsFaultless, IsTakeable, answers, request_body_of, is_answered_now, holds_request}
use Rattle.fs_server.proofs.Served.{past}
use Rattle.fs_server.proofs.Frames.{asked_so, fault_in, holds, interrupts, judged_so, refuses_for}

-- a request with nothing wrong has no fault
no_fault : (s : Server) (unique nodeid : ℕ) (content : RequestContent) → IsFaultless s unique nodeid content
    → request_fault s unique (body_in nodeid content) ≡ None
no_fault s unique nodeid content right =
    sym (judged_so s unique nodeid content right.for_minor right.known right.few false
    (λ i. is_some (right.unheld i) || is_some (right.unkept i)))

-- forgets allocate no generation
same_generations : (t : NodeTable) (fs : List Forget) → (all_taken_back t fs).next_generation ≡ t.next_generation
same_generations t [] = refl
same_generations t (f ∷ fs) = same_generations (taken_back t f.0 f.1) fs

last_or : (x e f : Bool) → (x || e) ≡ false → f ≡ false → (x || f) ≡ false
last_or true e f before last = before
last_or false e f before last = last

module _ (s : Server) (unique : ℕ) (inside : is_server_past_end s ≡ false) where
  past_forgotten : (fs : List Forget) → is_server_past_end (forgetting s fs) ≡ false
  past_forgotten fs =
      ap (λ (g : ℕ). nat_lt counter_end s.tree.next_inode || nat_lt counter_end s.tree.next_cookie
      || nat_lt counter_end g || nat_lt counter_end s.handles.next_fh || nat_lt counter_end s.next_copy)
      (same_generations s.nodes fs)
      ∙ inside

  past_interrupting : (original : ℕ) (o : Option HeldRequest) (k : Option Kept)
      → (not (is_some o || is_some k) ≡ true → s.next_copy < 2 ^ 62)
      → is_server_past_end (interrupting s unique original o k).server ≡ false
  past_interrupting original (Some h) k number = inside
  past_interrupting original None (Some k) number = inside
  past_interrupting original None None number =
      last_or (nat_lt counter_end s.tree.next_inode || nat_lt counter_end s.tree.next_cookie
      || nat_lt counter_end s.nodes.next_generation || nat_lt counter_end s.handles.next_fh)
      (nat_lt counter_end s.next_copy)
      (nat_lt counter_end (s.next_copy + 1)) inside (le-ltb counter_end (s.next_copy + 1)
      (let low = number refl in omega (arith, low)))

  -- what is taken allocates no number but that of a copy
  past_taken : (body : RequestBody) → (is_answered_now s body ≡ true → s.next_copy < 2 ^ 62)
      → is_server_past_end (taking s unique body).server ≡ false
  past_taken (init flags) number = inside
  past_taken (asks operation) number = inside
  past_taken (release o) number = inside
  past_taken (forget f) number = past_forgotten (f ∷ [])
  past_taken (batch_forget fs) number = past_forgotten fs
  past_taken (interrupt original) number = past_interrupting original (get s.held original) (get s.kept original) number

-- what is answered at once allocates a copy number
past_answered : (s : Server) (unique : ℕ) (body : RequestBody) → is_answered_now s body ≡ true → 2 ^ 62 ≤ s.next_copy
    → is_server_past_end (taking s unique body).server ≡ true
past_answered s unique (interrupt original) answered over = by (get s.held original) (get s.kept original) answered
  where
    by : (o : Option HeldRequest) (k : Option Kept) → not (is_some o || is_some k) ≡ true
        → is_server_past_end (interrupting s unique original o k).server ≡ true
    by (Some h) k e = absurd (true≢false (sym e))
    by None (Some k) e = absurd (true≢false (sym e))
    by None None e = past (sending s unique (failed eagain) s.next_copy) (inr (inr (inr (inr (omega (arith, over))))))
past_answered s unique body answered over = absurd (true≢false (sym answered))

-- a request with nothing wrong that would be answered, where no copy number is left
pub exhausts : (s : Server) (bytes : List ℕ) (m : RequestMessage) → Spells bytes m
    → ((n : RequestMessage) → Spells bytes n → m ≡ n) → IsFaultless s m.unique m.nodeid m.content
    → answers s m.nodeid m.content ≡ true → 2 ^ 62 ≤ s.next_copy
    → RefusesFrame s bytes fault.Exhausted
exhausts s bytes m spells only right answered over =
    refuses_for s bytes m spells only (request_body_of m.nodeid m.content) fault.Exhausted (asked_so m.nodeid m.content)
    (no_fault s m.unique m.nodeid m.content right)
    (sym (ap past_or_memory (past_answered s m.unique (request_body_of m.nodeid m.content) answered over)))

module _ (s : Server) (bytes : List ℕ) (m : RequestMessage) (right : IsTakeable s bytes m) where
  pub asked_body : body_in m.nodeid m.content ≡ Some (request_body_of m.nodeid m.content)
  asked_body = asked_so m.nodeid m.content

  pub faultless : fault_in s m ≡ None
  faultless = no_fault s m.unique m.nodeid m.content right.faultless

  pub within : is_server_past_end (taking s m.unique (request_body_of m.nodeid m.content)).server ≡ false
  within = past_taken s m.unique right.within (request_body_of m.nodeid m.content) right.number

  abbrev pub can_take : CanTake s bytes
  can_take = record {
    request = record { unique = m.unique; body = request_body_of m.nodeid m.content };
    says = record { message = m; spells = right.spells; unique = refl; says = asked_body };
    faultless = ap (request_fault s m.unique) (sym asked_body) ∙ faultless;
    within = within;
  }

  -- only memory can run out
  refused : (fault : ServerFault) → fault ≡ Memory → RefusesFrame s bytes fault
  refused fault memory = refuses_for s bytes m right.spells right.only
      (request_body_of m.nodeid m.content) fault asked_body faultless (memory ∙ sym (ap past_or_memory within))

  pub held_so : {A : Type 0} → holds_request m.nodeid m.content ≡ true → (new : Server) (r : Result (Taken A) ServerFault)
      → IfErr r (λ f. f ≡ Memory) → IfOk r (λ t. t ≡ record { unique = m.unique; word = Held; sent = None })
      → OnOk r (new ≡ holding s m.unique (request_body_of m.nodeid m.content))
      → MatchResult r (λ t. TakesFrame s bytes t new) (RefusesFrame s bytes)
  held_so is new (Ok t) memory e server =
      holds s bytes m.unique m.nodeid t new m.content is e server right.spells faultless
  held_so is new (Err f) memory e after = refused f memory

  pub interrupted_so : {A : Type 0} (original : ℕ) → m.content ≡ wire.interrupt original
      → (new : Server) (r : Result (Taken A) ServerFault) → IfErr r (λ f. f ≡ Memory)
      → IfOk r (λ t. Interrupts s m.unique original t new)
      → MatchResult r (λ t. TakesFrame s bytes t new) (RefusesFrame s bytes)
  interrupted_so original is new (Ok t) e i = let spelled = right.spells in let none =
      faultless in interrupts s bytes m.unique m.nodeid original t new i (rw is at spelled) (rw is at none)
  interrupted_so original is new (Err f) e i = refused f e
