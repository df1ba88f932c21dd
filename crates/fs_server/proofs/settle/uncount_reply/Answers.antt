use Rattle.fs_server.proofs.DiscardsUnheld.{as_given_back}
use Rattle.fs_server.proofs.settle.uncount_reply.Goals as goal

pub returns-clause-gives : goal.returns-clause-gives
returns-clause-gives g c =
    as_given_back c.args.files.now c.entries_back.new.files c.uncount_handle_if_any.new.files c.args.reply.now c.file_entries.result.now c.opened.result c.file_entries.ensures c.opened.ensures c.entries_back.ensures c.uncount_handle_if_any.ensures
