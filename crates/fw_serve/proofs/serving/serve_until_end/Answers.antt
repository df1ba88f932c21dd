use Rattle.fw_serve.proofs.serving.serve_until_end.Goals as goal

pub returns-in-Ok-clause-served : goal.returns-in-Ok-clause-served
returns-in-Ok-clause-served g c = let over = c.in-Ok.ensures.served in record {
  end = c.in-Ok.end;
  last = c.serve.new.server;
  served = (over.0, over.1, (over.2, c.served_is_unaccused.ensures _ over.0 _ over.2.serves), over.3);
  stopped = c.status_at.ensures;
}
