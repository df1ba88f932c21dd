-- What a link over readers and writers carries: what its writers took and its readers gave, where those know it.
use Rattle.std.specs.Prelude.{List, ℕ, Option}
use Rattle.std.specs.Io.KnownBytes.{Appends, Consumes}
use Rattle.std.proofs.KnownBytes.{Appends-nil, Appends-trans, Consumes-nil, Consumes-trans}
use Rattle.fw_link.specs.declared.stream.StreamLink.{StreamLink}
use Rattle.fw_link.specs.Traffic.{Traffic, no_traffic, in_turn}

module _ {R W : Type 0} (remaining : R → Option (List ℕ)) (contents : W → Option (List ℕ)) where
  -- the writers took what was put, and the readers gave what was got
  pub record StreamedEnvelopes (old new : StreamLink R W) (h : Traffic) : Type 0 where
    pub kernel_wrote : Appends (contents old.kernel_writer) (contents new.kernel_writer) h.kernel_put
    pub server_wrote : Appends (contents old.server_writer) (contents new.server_writer) h.server_put
    pub kernel_read : Consumes (remaining old.kernel_reader) (remaining new.kernel_reader) h.kernel_got
    pub server_read : Consumes (remaining old.server_reader) (remaining new.server_reader) h.server_got

  pub nothing_streamed : (link : StreamLink R W) → StreamedEnvelopes link link no_traffic
  nothing_streamed link =
      record {
        kernel_wrote = Appends-nil (contents link.kernel_writer);
        server_wrote = Appends-nil (contents link.server_writer);
        kernel_read = Consumes-nil (remaining link.kernel_reader);
        server_read = Consumes-nil (remaining link.server_reader);
      }

  pub streamed_in_turn : (first mid last : StreamLink R W) (h k : Traffic) → StreamedEnvelopes first mid h → StreamedEnvelopes mid last k
      → StreamedEnvelopes first last (in_turn h k)
  streamed_in_turn first mid last h k one two =
      record {
        kernel_wrote = Appends-trans (contents first.kernel_writer) (contents mid.kernel_writer)
            (contents last.kernel_writer) h.kernel_put k.kernel_put one.kernel_wrote two.kernel_wrote;
        server_wrote = Appends-trans (contents first.server_writer) (contents mid.server_writer)
            (contents last.server_writer) h.server_put k.server_put one.server_wrote two.server_wrote;
        kernel_read = Consumes-trans (remaining first.kernel_reader) (remaining mid.kernel_reader)
            (remaining last.kernel_reader) h.kernel_got k.kernel_got one.kernel_read two.kernel_read;
        server_read = Consumes-trans (remaining first.server_reader) (remaining mid.server_reader)
            (remaining last.server_reader) h.server_got k.server_got one.server_read two.server_read;
      }
