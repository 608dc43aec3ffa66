use Rattle.liveness.proofs.Common.{◌≡◌, Some, Contains, lands, landing_link}
use Rattle.liveness.proofs.Adding.{adds_as, adds_link}
use Rattle.liveness.proofs.chart.Chart.link_word.Goals as goal

pub returns-in_ok-push-clause-added : goal.returns-in_ok-push-clause-added
returns-in_ok-push-clause-added c =
    let graph = c.args.self.now.graph.now in
    let link = landing_link graph c.args.node c.args.word in
    adds_as (Contains c.args.links.now.items) (Contains c.push.new.self.items) (λ l. link ≡ l)
    (λ l. (lands graph (Some c.args.word) ≡ c.args.node) × (link ≡ l))
    (adds_link c.args.links.now.items c.push.new.self.items c.link_landing.result link c.in_ok-push.ensures.items
    c.link_landing.ensures) (λ l k. ((c.lands_at.ensures.0 c.if-lands_at.true), k)) (λ l k. k.1)
