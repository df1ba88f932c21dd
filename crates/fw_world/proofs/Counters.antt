-- No counter of a world is past its end where none of its kernel's and of its server's is, and no node's count has come
-- to it.
use Rattle.std.proofs.Common.{◌≡◌, Bool, true, false, ◌||◌, refl, ◌∙◌}
use Rattle.fuse_spec.specs.Kernel.Kernel.{Kernel}
use Rattle.fuse_spec.specs.Kernel.Refusals.{is_kernel_past_end, is_counted_out}
use Rattle.fuse_spec.specs.Kernel.Refusals as kernel
use Rattle.fuse_spec.specs.Server.Refusals as server
use Rattle.fuse_spec.specs.Server.Server.{Server}
use Rattle.fuse_spec.specs.World.Worlds.{World}
use Rattle.fuse_spec.specs.World.Steps.{is_past}

-- Of three, as a world has them: the kernel's numbers, the counts of its nodes, and the server's numbers.
none_past : (a b c : Bool) → a ≡ false → b ≡ false → c ≡ false → ((a || b) || c) ≡ false
none_past true b c first second third = absurd (cc first)
none_past false true c first second third = absurd (cc second)
none_past false false c first second third = third

first_past : (a b c : Bool) → a ≡ true → ((a || b) || c) ≡ true
first_past true b c e = refl
first_past false b c e = absurd (cc e)

second_past : (a b c : Bool) → b ≡ true → ((a || b) || c) ≡ true
second_past true b c e = refl
second_past false true c e = refl
second_past false false c e = absurd (cc e)

first_one : (a b : Bool) → a ≡ true → (a || b) ≡ true
first_one true b e = refl
first_one false b e = absurd (cc e)

either : (a b : Bool) → b ≡ true → (a || b) ≡ true
either true b e = refl
either false b e = e

first_low : (a b : Bool) → (a || b) ≡ false → a ≡ false
first_low true b e = e
first_low false b e = refl

second_low : (a b : Bool) → (a || b) ≡ false → b ≡ false
second_low true b e = absurd (cc e)
second_low false b e = e

not_second : (a b : Bool) → (a || b) ≡ true → b ≡ false → a ≡ true
not_second true b e low = refl
not_second false true e low = absurd (cc low)
not_second false false e low = e

-- With this kernel and this server.
pub world_within : (k : Kernel) (s : Server) → is_kernel_past_end k ≡ false → is_counted_out k.nodes ≡ false
    → server.is_server_past_end s ≡ false → (w : World) → w.kernel ≡ k → w.server ≡ s → is_past w ≡ false
world_within k s kernel_within none_out server_within w same_kernel same_server =
    (λ i. kernel.is_kernel_past (same_kernel i) || server.is_server_past_end (same_server i)) ∙ none_past (is_kernel_past_end k)
    (is_counted_out k.nodes) (server.is_server_past_end s) kernel_within none_out server_within

-- One of these is past its end, and so a counter of the world is.
pub past_by_all : (w : World) → kernel.is_kernel_past w.kernel ≡ true → is_past w ≡ true
past_by_all w past = first_one (kernel.is_kernel_past w.kernel) (server.is_server_past_end w.server) past

pub past_by_kernel : (w : World) → is_kernel_past_end w.kernel ≡ true → is_past w ≡ true
past_by_kernel w past = first_past (is_kernel_past_end w.kernel) (is_counted_out w.kernel.nodes)
    (server.is_server_past_end w.server) past

pub past_by_count : (w : World) → is_counted_out w.kernel.nodes ≡ true → is_past w ≡ true
past_by_count w past = second_past (is_kernel_past_end w.kernel) (is_counted_out w.kernel.nodes)
    (server.is_server_past_end w.server) past

pub past_by_server : (w : World) → server.is_server_past_end w.server ≡ true → is_past w ≡ true
past_by_server w past = either (kernel.is_kernel_past w.kernel) (server.is_server_past_end w.server) past

-- No counter of a world is past its end, and so none of these is.
pub kernel_all_low : (w : World) → is_past w ≡ false → kernel.is_kernel_past w.kernel ≡ false
kernel_all_low w within = first_low (kernel.is_kernel_past w.kernel) (server.is_server_past_end w.server) within

pub kernel_low : (w : World) → is_past w ≡ false → is_kernel_past_end w.kernel ≡ false
kernel_low w within = first_low (is_kernel_past_end w.kernel) (is_counted_out w.kernel.nodes) (kernel_all_low w within)

pub count_low : (w : World) → is_past w ≡ false → is_counted_out w.kernel.nodes ≡ false
count_low w within = second_low (is_kernel_past_end w.kernel) (is_counted_out w.kernel.nodes) (kernel_all_low w within)

pub server_low : (w : World) → is_past w ≡ false → server.is_server_past_end w.server ≡ false
server_low w within = second_low (kernel.is_kernel_past w.kernel) (server.is_server_past_end w.server) within

pub kernel_past : (w : World) → is_past w ≡ true → server.is_server_past_end w.server ≡ false → kernel.is_kernel_past w.kernel ≡ true
kernel_past w past low = not_second (kernel.is_kernel_past w.kernel) (server.is_server_past_end w.server) past low
