use Rattle.host_real.proofs.site.HostSiteSite.reap.Goals as goal

-- src/site.rt:295:5
pub returns-clause-ended : goal.returns-clause-ended
returns-clause-ended g c = (c.reap-ended.ensures.0, c.reap-ended.ensures.1, λ tells. absurd tells)
