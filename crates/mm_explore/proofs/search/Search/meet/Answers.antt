use Rattle.std.proofs.Common.{◌≡◌, ◌-◌, ◌++◌, ◌∷◌, [], length, ap, subst, arith, length-append}
use Rattle.mm_config.specs.Machines.{Configs, Keeps}
use Rattle.mm_explore.specs.{Explored.leads_to, FoundLists.{with_configs, led_by}}
use Rattle.mm_explore.proofs.Steps.{met_known, met_new, met_full}
use Rattle.mm_explore.proofs.search.Search.meet.Goals as goal

pub keep-requires : goal.keep-requires
keep-requires c =
    let s = c.args.self.now in
    record {
      stands = (c.args.img.now, with_configs c.args.img.now s.found (leads_to c.args.img.now (led_by s.found c.args.origin)), c.requires.at);
      few = c.requires.few;
    }

pub returns-in-Known : goal.returns-in-Known
returns-in-Known c =
    let s = c.args.self.now in
    let i = c.args.img.now in
    let was : Configs = with_configs i s.found (leads_to i (led_by s.found c.args.origin)) in
    let kept = c.in_ok-at.ensures i was c.requires.at in
    met_known i s c.args.origin c.requires.at c.keep.new.self c.in-Known.at kept.0 kept.1 (subst (λ l. Keeps s.limit l was kept.0) c.in-Known.is kept.2)

pub returns-in_ok-push-in-New : goal.returns-in_ok-push-in-New
returns-in_ok-push-in-New c =
    let s = c.args.self.now in
    let i = c.args.img.now in
    let was : Configs = with_configs i s.found (leads_to i (led_by s.found c.args.origin)) in
    let kept = c.in_ok-at.ensures i was c.requires.at in
    let len = c.len.ensures in
    let pushed : c.push.new.self ≡ s.found ++ led_by s.found c.args.origin ∷ [] = c.in_ok-push-in-New.ensures in
    let more = length-append s.found (led_by s.found c.args.origin ∷ []) in
    met_new i s c.args.origin c.requires.at c.keep.new.self kept.0 c.push.new.self (c.len.result - 1) kept.1
    (subst (λ l. Keeps s.limit l was kept.0) c.in-New.is kept.2) pushed (omega (arith, len, ap length pushed, more))

pub returns-in-Full : goal.returns-in-Full
returns-in-Full c =
    let s = c.args.self.now in
    let i = c.args.img.now in
    let was : Configs = with_configs i s.found (leads_to i (led_by s.found c.args.origin)) in
    let kept = c.in_ok-at.ensures i was c.requires.at in
    met_full i s c.args.origin c.requires.at c.keep.new.self kept.0 kept.1 (subst (λ l. Keeps s.limit l was kept.0) c.in-Full.is kept.2)
