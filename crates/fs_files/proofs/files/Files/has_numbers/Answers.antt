use Rattle.std.proofs.Common.{arith}
use Rattle.fuse_spec.specs.Files.Operations.{files_in_reply}
use Rattle.fs_files.specs.Performing.{said}
use Rattle.fs_files.specs.Values.{server_at}
use Rattle.fs_files.proofs.DrawsFew.{allocates_few}
use Rattle.fs_files.proofs.files.Files.has_numbers.Goals as goal

pub returns-then-has_numbers_for_any-clause-has : goal.returns-then-has_numbers_for_any-clause-has
returns-then-has_numbers_for_any-clause-has g c = λ v m yes.
    let s = server_at m c.args.self.now v in
    let few = allocates_few s c.args.held.now in
    let any = c.has_numbers_for_any.ensures in
    let is = c.if-has_numbers_for_any.true in
    let few_inodes = few.inodes in
    let few_cookies = few.cookies in
    let few_opens = few.opens in
    let inodes = any.inodes is in
    let cookies = any.cookies is in
    let numbers = any.numbers is in
    let nodes = any.nodes is (files_in_reply (said s c.args.held.now)) few.files in
    record {
      inodes = omega (arith, few_inodes, inodes);
      cookies = omega (arith, few_cookies, cookies);
      generations = λ kept. nodes.0;
      counts = λ kept. nodes.1;
      numbers = λ kept. omega (arith, few_opens, numbers);
    }
