use Rattle.std.proofs.Common.{[], ◌∷◌, inl, refl, sym, ap, subst}
use Rattle.search_dfs.specs.declared.open.Open.{Open}
use Rattle.search_dfs.specs.Stack.{Levels}
use Rattle.search_dfs.specs.Task.{setting_of, after_of}
use Rattle.search_dfs.specs.Turns.{levels_of, runs_of, Taken}
use Rattle.search_dfs.proofs.Alternatives.{open_level, runs_some, released_turn, taken_of, tried, tried_some}
use Rattle.search_base.proofs.OnLaws.{ok_map, err_map}
use Rattle.search_dfs.proofs.Following.{runs_there}
use Rattle.search_dfs.proofs.open.Open.step.Goals as goal

pub release-requires : goal.release-requires
release-requires g c = open_level (levels_of (c.args.self).now) ((c.args.self).now).depth c.requires.fits.depth c.requires.more c.in-None.ensures.none

pub leave-requires : goal.leave-requires
leave-requires g c =
    let lb = ap (λ t. t.levels) c.release.ensures in
    let k = runs_some (setting_of (c.args.task).now) [] (c.release.new.self).levels (runs_of (c.args.self).now) (subst (λ w. Levels (setting_of (c.args.task).now) w (runs_of (c.args.self).now)) lb c.requires.fits.levels) in
    runs_there ((c.args.self).now).runs k.0 k.1 k.2

pub returns-in-None-clause-ok : goal.returns-in-None-clause-ok
returns-in-None-clause-ok g c =
    let lb = ap (λ t. t.levels) c.release.ensures in
    let k = runs_some (setting_of (c.args.task).now) [] (c.release.new.self).levels (runs_of (c.args.self).now) (subst (λ w. Levels (setting_of (c.args.task).now) w (runs_of (c.args.self).now)) lb c.requires.fits.levels) in
    released_turn (setting_of (c.args.task).now) (after_of (c.args.task).now) ((c.args.task).now).limit (c.args.self).now _ (c.release.new.self).levels k.0 k.1 _ c.requires.fits lb k.2 refl (sym (ap (λ t. t.most) c.release.ensures)) refl (c.leave.ensures k.0 k.1 k.2) refl refl

pub settle-requires : goal.settle-requires
settle-requires g c = let l = c.in-Some.ensures.least in (c.in-Some.outcome ∷ l.0, l.1, l.2, inl refl)

pub try_one-requires-clause-taken : goal.try_one-requires-clause-taken
try_one-requires-clause-taken g c =
    let l = c.in-Some.ensures.least in
    let k = runs_some (setting_of (c.args.task).now) (c.in-Some.outcome ∷ l.0) l.1 (runs_of (c.args.self).now) (subst (λ w. Levels (setting_of (c.args.task).now) w (runs_of (c.args.self).now)) l.2 c.requires.fits.levels) in
    (l.0, l.1, k.0, k.1, taken_of (setting_of (c.args.task).now) (after_of (c.args.task).now) ((c.args.task).now).limit (c.args.self).now _ c.in-Some.outcome l.0 l.1 k.0 k.1 c.requires.fits l.2 (c.settle.ensures.least l.0 l.1 l.2) (ap (λ t. t.most) c.settle.ensures.settled) k.2 refl refl)

pub returns-in-Some-clause-ok : goal.returns-in-Some-clause-ok
returns-in-Some-clause-ok g c =
    let l = c.in-Some.ensures.least in
    let k = runs_some (setting_of (c.args.task).now) (c.in-Some.outcome ∷ l.0) l.1 (runs_of (c.args.self).now) (subst (λ w. Levels (setting_of (c.args.task).now) w (runs_of (c.args.self).now)) l.2 c.requires.fits.levels) in
    let b2 : Open = record { tree = c.settle.new.self; depth = ((c.args.self).now).depth; runs = ((c.args.self).now).runs; made = ((c.args.self).now).made; stopped = ((c.args.self).now).stopped } in
    let T : Taken (setting_of (c.args.task).now) b2 c.in-Some.outcome l.0 l.1 k.0 k.1 = taken_of (setting_of (c.args.task).now) (after_of (c.args.task).now) ((c.args.task).now).limit (c.args.self).now b2 c.in-Some.outcome l.0 l.1 k.0 k.1 c.requires.fits l.2 (c.settle.ensures.least l.0 l.1 l.2) (ap (λ t. t.most) c.settle.ensures.settled) k.2 refl refl in
    ok_map c.try_one.result c.try_one.ensures.ok (λ f. tried (setting_of (c.args.task).now) (after_of (c.args.task).now) ((c.args.task).now).limit (c.args.self).now b2 _ _ _ _ _ _ _ l.2 k.2 refl refl (f l.0 l.1 k.0 k.1 T).0)

pub returns-in-Some-clause-room : goal.returns-in-Some-clause-room
returns-in-Some-clause-room g c =
    let l = c.in-Some.ensures.least in
    let k = runs_some (setting_of (c.args.task).now) (c.in-Some.outcome ∷ l.0) l.1 (runs_of (c.args.self).now) (subst (λ w. Levels (setting_of (c.args.task).now) w (runs_of (c.args.self).now)) l.2 c.requires.fits.levels) in
    let b2 : Open = record { tree = c.settle.new.self; depth = ((c.args.self).now).depth; runs = ((c.args.self).now).runs; made = ((c.args.self).now).made; stopped = ((c.args.self).now).stopped } in
    let T : Taken (setting_of (c.args.task).now) b2 c.in-Some.outcome l.0 l.1 k.0 k.1 = taken_of (setting_of (c.args.task).now) (after_of (c.args.task).now) ((c.args.task).now).limit (c.args.self).now b2 c.in-Some.outcome l.0 l.1 k.0 k.1 c.requires.fits l.2 (c.settle.ensures.least l.0 l.1 l.2) (ap (λ t. t.most) c.settle.ensures.settled) k.2 refl refl in
    ok_map c.try_one.result c.try_one.ensures.ok (λ f. (f l.0 l.1 k.0 k.1 T).1)

pub returns-in-Some-clause-err : goal.returns-in-Some-clause-err
returns-in-Some-clause-err g c =
    let l = c.in-Some.ensures.least in
    let k = runs_some (setting_of (c.args.task).now) (c.in-Some.outcome ∷ l.0) l.1 (runs_of (c.args.self).now) (subst (λ w. Levels (setting_of (c.args.task).now) w (runs_of (c.args.self).now)) l.2 c.requires.fits.levels) in
    let b2 : Open = record { tree = c.settle.new.self; depth = ((c.args.self).now).depth; runs = ((c.args.self).now).runs; made = ((c.args.self).now).made; stopped = ((c.args.self).now).stopped } in
    let T : Taken (setting_of (c.args.task).now) b2 c.in-Some.outcome l.0 l.1 k.0 k.1 = taken_of (setting_of (c.args.task).now) (after_of (c.args.task).now) ((c.args.task).now).limit (c.args.self).now b2 c.in-Some.outcome l.0 l.1 k.0 k.1 c.requires.fits l.2 (c.settle.ensures.least l.0 l.1 l.2) (ap (λ t. t.most) c.settle.ensures.settled) k.2 refl refl in
    err_map c.try_one.result c.try_one.ensures.err (λ f. tried_some (setting_of (c.args.task).now) (after_of (c.args.task).now) ((c.args.task).now).limit (c.args.self).now b2 _ _ _ _ _ _ l.2 k.2 refl refl (f l.0 l.1 k.0 k.1 T))
