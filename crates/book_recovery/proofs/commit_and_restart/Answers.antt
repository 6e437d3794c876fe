use Rattle.book_recovery.proofs.Found.{on_all, on_both, on_err, gives_after, has_after, holds_after}
use Rattle.book_recovery.proofs.commit_and_restart.Goals as goal

pub returns-clause-kept : goal.returns-clause-kept
returns-clause-kept g c =
    let again = c.restart.ensures in
    let commit = c.commit-committed.ensures in
    on_all c.restart.result again.told again.acknowledged again.honest (λ it told acknowledged honest well book kept.
    gives_after c.args.keeper c.commit-committed.new.self c.args.batch.now it.loaded book kept (honest well.0) commit.notes (λ k holds. (told well k holds).given) (λ books most. acknowledged well books book c.args.batch.now most)
    c.commit-committed.result commit.goes_on commit.left commit.crash)

pub returns-clause-failed : goal.returns-clause-failed
returns-clause-failed g c =
    let again = c.restart.ensures in
    let commit = c.commit-committed.ensures in
    on_both c.restart.result again.failed again.honest (λ it fails honest tells failed book kept.
    fails tells failed (has_after c.args.keeper c.commit-committed.new.self c.args.batch.now book kept commit.notes (honest tells) c.commit-committed.result commit.goes_on commit.left))

pub returns-clause-unopened : goal.returns-clause-unopened
returns-clause-unopened g c =
    let commit = c.commit-committed.ensures in
    on_err c.restart.result c.restart.ensures.unopened (λ e unopened clean book kept.
    let it = unopened clean in
    record {
      files = it.files;
      held = λ honest. holds_after c.args.keeper c.commit-committed.new.self c.args.batch.now book kept commit.notes it.files it.stopped honest c.commit-committed.result commit.goes_on commit.left commit.crash;
      refused = it.refused;
    })
