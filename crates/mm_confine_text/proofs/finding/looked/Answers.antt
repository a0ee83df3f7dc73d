use Rattle.std.{proofs.Common.{length, ◌≤◌, subst}, specs.Prelude.{IfSome}}
use Rattle.mm_kernel.specs.Facts.Fact.{HasThread}
use Rattle.mm_keep.specs.{Claims.Tables, Searching.IsExact}
use Rattle.mm_confine_text.proofs.Answering.{found_kept}
use Rattle.mm_confine_text.proofs.finding.looked.Goals as goal

pub returns-in-None : goal.returns-in-None
returns-in-None c = record { answer = (c.requires, c.in_ok-find.ensures.more c.in-None.is); reach = tt }

pub returns-in-Some : goal.returns-in-Some
returns-in-Some c =
    let i = c.args.kernel.now.image in
    let kept = c.args.kernel.now.kept in
    let exact : IsExact i kept c.in-Some.tables = subst (λ o. IfSome o (IsExact i kept)) c.in-Some.is c.in_ok-find.ensures.all in
    let few : length c.in-Some.tables.threads ≤ c.args.threads =
    subst (λ o. IfSome o (λ (t : Tables). length t.threads ≤ c.args.threads)) c.in-Some.is c.in_ok-find.ensures.few in
    found_kept i kept c.args.threads c.requires (record { threads = c.in-Some.tables.threads; whole = λ t d. exact.whole (HasThread t) d; few = few }) c.kept_of.result c.kept_of.ensures
