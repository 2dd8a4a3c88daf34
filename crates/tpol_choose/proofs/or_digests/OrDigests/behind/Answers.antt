use Rattle.tpol_choose.proofs.or_digests.OrDigests.behind.Goals as goal

pub returns-in-None-clause-knows : goal.returns-in-None-clause-knows
returns-in-None-clause-knows c = c.without_memo.ensures.knows c.args.rest.now
