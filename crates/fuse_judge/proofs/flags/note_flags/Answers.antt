use Rattle.std.proofs.Common.{◌∙◌, sym}
use Rattle.fuse_judge.proofs.FlagLaws.{flags-noted, noted_request, noted_forget, noted_agreement, noted_readers, noted_writers, noted_resend, noted_no_files, noted_no_directories, noted_quiet, others_leave}
use Rattle.fuse_judge.proofs.flags.note_flags.Goals as goal

pub returns-then-not-is_forget : goal.returns-then-not-is_forget
returns-then-not-is_forget c = λ s are shows. rw c.in-Read.is (flags-noted s _ c.args.flags.now _ are
    (noted_request s c.args.flags.now c.args.shows c.in-Read.opcode c.in-Read.unique _
    (sym c.is_forget.ensures ∙ c.if-not-is_forget.true) c.higher-flags.ensures
    (rw c.in-Read.is at shows)))

pub returns-else-not-is_forget : goal.returns-else-not-is_forget
returns-else-not-is_forget c = λ s are shows. rw c.in-Read.is (flags-noted s _ c.args.flags.now _ are
    (noted_forget s c.args.flags.now c.args.shows c.in-Read.opcode c.in-Read.unique
    (sym c.is_forget.ensures ∙ c.if-not-is_forget.false) (rw c.in-Read.is at shows)))

pub returns-in-Agrees : goal.returns-in-Agrees
returns-in-Agrees c = λ s are shows. rw c.in-Agrees.is (flags-noted s _ c.args.flags.now _ are
    (noted_agreement s c.args.flags.now c.args.shows c.in-Agrees.max_write (rw c.in-Agrees.is at shows)))

pub returns-in-SeveralReaders : goal.returns-in-SeveralReaders
returns-in-SeveralReaders c = λ s are shows. rw c.in-SeveralReaders.is (flags-noted s _ c.args.flags.now _ are
    (noted_readers s c.args.flags.now c.args.shows (rw c.in-SeveralReaders.is at shows)))

pub returns-in-SeveralWriters : goal.returns-in-SeveralWriters
returns-in-SeveralWriters c = λ s are shows. rw c.in-SeveralWriters.is (flags-noted s _ c.args.flags.now _ are
    (noted_writers s c.args.flags.now c.args.shows (rw c.in-SeveralWriters.is at shows)))

pub returns-in-Resends : goal.returns-in-Resends
returns-in-Resends c = λ s are shows. rw c.in-Resends.is (flags-noted s _ c.args.flags.now _ are
    (noted_resend s c.args.flags.now c.args.shows (rw c.in-Resends.is at shows)))

pub returns-in-File : goal.returns-in-File
returns-in-File c = λ s are shows. rw (c.in-OpensNone.is, c.in-File.is) (flags-noted s _ c.args.flags.now _ are
    (noted_no_files s c.args.flags.now c.args.shows (rw c.in-OpensNone.is at shows)))

pub returns-in-Directory : goal.returns-in-Directory
returns-in-Directory c = λ s are shows. rw (c.in-OpensNone.is, c.in-Directory.is) (flags-noted s _ c.args.flags.now _ are
    (noted_no_directories s c.args.flags.now c.args.shows (rw c.in-OpensNone.is at shows)))

pub returns-in_default : goal.returns-in_default
returns-in_default c = λ s are shows. flags-noted s c.args.act c.args.flags.now _ are
    (noted_quiet s c.args.flags.now c.args.shows c.args.act
    (others_leave c.args.act c.in_default.not-Read c.in_default.not-Agrees c.in_default.not-SeveralReaders
    c.in_default.not-SeveralWriters c.in_default.not-Resends c.in_default.not-OpensNone) shows)
