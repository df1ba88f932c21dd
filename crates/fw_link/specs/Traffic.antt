-- What is put and got on a link.
use Rattle.std.specs.Prelude.{◌≡◌, ℕ, ◌^◌, ◌<◌, ◌⊎◌, List, [], ◌++◌, Result, MatchResult}
use Rattle.fw_link.specs.declared.side.Side.{Side}
use Rattle.fw_link.specs.declared.side.Side.TheVariants.{Kernel, Server}

-- the other end
abbrev pub other_side : Side → Side
other_side Kernel = Server
other_side Server = Kernel

-- the bytes that each side put, and those that it got, over some time
pub record Traffic : Type 0 where
  pub kernel_put : List ℕ
  pub server_put : List ℕ
  pub kernel_got : List ℕ
  pub server_got : List ℕ

-- nothing was put, and nothing got
abbrev pub no_traffic : Traffic
no_traffic = record { kernel_put = []; server_put = []; kernel_got = []; server_got = [] }

-- one side put these bytes, and the other got those
abbrev pub sent : Side → (put got : List ℕ) → Traffic
sent Kernel put got = record { kernel_put = put; server_put = []; kernel_got = []; server_got = got }
sent Server put got = record { kernel_put = []; server_put = put; kernel_got = got; server_got = [] }

-- first the one, then the other
abbrev pub in_turn : Traffic → Traffic → Traffic
in_turn h k =
    record {
      kernel_put = h.kernel_put ++ k.kernel_put;
      server_put = h.server_put ++ k.server_put;
      kernel_got = h.kernel_got ++ k.kernel_got;
      server_got = h.server_got ++ k.server_got;
    }

-- a stream begins so
abbrev pub BeginsWith : (stream front : List ℕ) → Type 0
BeginsWith stream front = (rest : List ℕ) × (stream ≡ front ++ rest)

-- what each side got is a beginning of what the other put
pub record IsInOrder (h : Traffic) : Type 0 where
  pub to_kernel : BeginsWith h.server_put h.kernel_got
  pub to_server : BeginsWith h.kernel_put h.server_got

-- each side got all that the other put
pub record IsWhole (h : Traffic) : Type 0 where
  pub to_kernel : h.kernel_got ≡ h.server_put
  pub to_server : h.server_got ≡ h.kernel_put

-- a failure was counted: the count rose, or stands at its last value
abbrev pub HasFailed : (before after : ℕ) → Type 0
HasFailed before after = (before < after) ⊎ ((before ≡ 2 ^ 62) × (after ≡ 2 ^ 62))

-- the count of failures stays at success, and each fault is counted
abbrev pub IsCounted : {T E : Type 0} → Result T E → (before after : ℕ) → Type 0
IsCounted result before after = MatchResult result (λ _. after ≡ before) (λ _. HasFailed before after)
