-- What INIT's request and reply agree on: the flags are those of linux/fuse.h that both sides set.
use Rattle.std.specs.Prelude.{◌≡◌, ◌≤◌, ◌<◌, ℕ, ◌+◌, min, Bool, true, false, not, ◌==◌, ◌&&◌, nat_lt, if◌then◌else◌, bit_and}
use Rattle.fuse_protocol.specs.declared.agreed.Agreed.{Agreed}
use Rattle.fuse_protocol.specs.declared.agreed.Unjudged.{Unjudged}
use Rattle.fuse_protocol.specs.declared.agreed.Unjudged.TheVariants as reason
use Rattle.fuse_protocol.specs.declared.init.InitRequest.{InitRequest}
use Rattle.fuse_protocol.specs.declared.init.InitReply.{InitReply}

-- under what INIT itself is read: nothing is agreed yet
abbrev pub before_init : Agreed
before_init = record {
  minor = 45;
  has_long_setxattr = false;
  has_extensions = false;
  has_dot_names = false;
  max_name = 1024;
}

-- the flags on which shapes depend
abbrev pub export_support : ℕ
export_support = 16

abbrev pub max_pages : ℕ
max_pages = 4194304

abbrev pub setxattr_ext : ℕ
setxattr_ext = 536870912

abbrev pub init_ext : ℕ
init_ext = 1073741824

abbrev pub security_ctx : ℕ
security_ctx = 4294967296

abbrev pub create_supp_group : ℕ
create_supp_group = 17179869184

-- whether one of these bits is among the flags
abbrev pub has_any : (flags bits : ℕ) → Bool
has_any flags bits = not (bit_and flags bits == 0)

-- the flags that both sides set
abbrev pub flags_of_both : InitRequest → InitReply → ℕ
flags_of_both request reply = bit_and request.flags reply.flags

-- how many bytes a file's name may have
abbrev pub longest_name_of : (flags pages : ℕ) → ℕ
longest_name_of flags pages = if has_any flags max_pages && nat_lt 1 pages then 4095 else 1024

-- Both sides speak protocol 7.
abbrev pub AreOfMajor : InitRequest → InitReply → Type 0
AreOfMajor request reply = (request.major ≡ 7) × (reply.major ≡ 7)

-- This is what they agree on, from 7.9 to 7.45.
pub record IsAgreement (request : InitRequest) (reply : InitReply) (agreed : Agreed) : Type 0 where
  pub major : AreOfMajor request reply
  pub lower : agreed.minor ≡ min request.minor reply.minor
  pub from : 9 ≤ agreed.minor
  pub upto : agreed.minor ≤ 45
  -- a kernel below 7.38 does not say how long its security contexts are
  pub counted : request.minor < 38 → has_any (flags_of_both request reply) security_ctx ≡ false
  pub long_setxattr : agreed.has_long_setxattr ≡ has_any (flags_of_both request reply) setxattr_ext
  pub extensions : agreed.has_extensions ≡ has_any (flags_of_both request reply) (security_ctx + create_supp_group)
  pub dot_names : agreed.has_dot_names ≡ has_any (flags_of_both request reply) export_support
  pub names : agreed.max_name ≡ longest_name_of (flags_of_both request reply) reply.max_pages

-- Why there is none: the first reason that applies.
abbrev pub UnjudgedIs : InitRequest → InitReply → Unjudged → Type 0
UnjudgedIs request reply reason.Major = AreOfMajor request reply → ⊥
UnjudgedIs request reply reason.Old = AreOfMajor request reply × (min request.minor reply.minor < 9)
UnjudgedIs request reply reason.New = AreOfMajor request reply × (45 < min request.minor reply.minor)
UnjudgedIs request reply reason.Contexts = AreOfMajor request reply × (9 ≤ min request.minor reply.minor)
    × (min request.minor reply.minor ≤ 45) × (request.minor < 38)
    × (has_any (flags_of_both request reply) security_ctx ≡ true)
