use Rattle.tg_script.proofs.Spaces.{on_ok, sizes_written}
use Rattle.tg_script.proofs.header_text.put_sizes.Goals as goal

pub returns : goal.returns
returns c =
    on_ok c.push.result _ _ c.push.ensures.ok (λ f. sizes_written _ _ _ _ _ _ _ (record { units = c.args.units; layouts = c.args.layouts; seqs = c.args.seqs; clients = c.args.clients; limit = c.args.limit })
    c.in_ok-put_field.ensures c.in_ok-put_field-2.ensures c.in_ok-put_field-3.ensures c.in_ok-put_field-4.ensures c.in_ok-put_field-5.ensures f)
