-- What reads and writes say that are tried until they say something.
use Rattle.std.proofs.Common.{◌≡◌, ◌≢◌, ◌∙◌, ℕ, ℤ, Bool, true, false, Some, None, Ok, Err, ap}
use Rattle.std.specs.Prelude.{if◌then◌else◌}
use Rattle.std.proofs.lemmas.Bool.{ne_eqb}
use Rattle.fuse_device.specs.ErrorNumbers.{end_of, is_read_again, is_time_over, is_written_again}
use Rattle.fuse_device.specs.Calls.{read_result, write_result}
use Rattle.fuse_device.specs.declared.device.DeviceEnd.TheVariants.{Ended, TimedOut, Failed}

-- some bytes
pub read_count : (times : Bool) (n : ℕ) → n ≢ 0 → read_result times (Ok n) ≡ Some (Ok n)
read_count times n some = ap (λ (b : Bool). if b then Some (Err Ended) else Some (Ok n)) (ne_eqb n 0 some)

pub write_count : (n : ℕ) → n ≢ 0 → write_result (Ok n) ≡ Some (Ok n)
write_count n some = ap (λ (b : Bool). if b then Some (Err Failed) else Some (Ok n)) (ne_eqb n 0 some)

module _ (times : Bool) (n : ℤ) where
  by_time : (over : Bool) → is_time_over times n ≡ over → read_result times (Err n)
      ≡ (if over then Some (Err TimedOut) else (if is_read_again n then None else Some (Err (end_of n))))
  by_time over is =
      ap (λ (b : Bool). if b then Some (Err TimedOut) else (if is_read_again n then None else Some (Err (end_of n)))) is

  pub read_timed_out : is_time_over times n ≡ true → read_result times (Err n) ≡ Some (Err TimedOut)
  read_timed_out over = by_time true over

  pub read_again : is_time_over times n ≡ false → is_read_again n ≡ true → read_result times (Err n) ≡ None
  read_again in_time again = by_time false in_time ∙ ap (λ (b : Bool). if b then None else Some (Err (end_of n))) again

  pub read_failed : is_time_over times n ≡ false → is_read_again n ≡ false
      → read_result times (Err n) ≡ Some (Err (end_of n))
  read_failed in_time over = by_time false in_time ∙ ap (λ (b : Bool). if b then None else Some (Err (end_of n))) over

pub write_again : (n : ℤ) → is_written_again n ≡ true → write_result (Err n) ≡ None
write_again n again = ap (λ (b : Bool). if b then None else Some (Err (end_of n))) again

pub write_failed : (n : ℤ) → is_written_again n ≡ false → write_result (Err n) ≡ Some (Err (end_of n))
write_failed n over = ap (λ (b : Bool). if b then None else Some (Err (end_of n))) over
