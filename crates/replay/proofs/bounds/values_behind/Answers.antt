use Rattle.std.proofs.Common.{codes, subst, sym}
use Rattle.replay.specs.Behind.{IsNamed}
use Rattle.replay.proofs.NamedLaws.{stands_there}
use Rattle.replay.proofs.bounds.values_behind.Goals as goal

pub returns-in_err-lo-clause-only : goal.returns-in_err-lo-clause-only
returns-in_err-lo-clause-only c lo hi depth objects steps h =
    absurd (c.in_err-lo.ensures.only lo h.behind_lo h.is_lo)

pub returns-in_err-hi-clause-only : goal.returns-in_err-hi-clause-only
returns-in_err-hi-clause-only c lo hi depth objects steps h =
    let a_lo = c.in_ok-lo.ensures.only lo h.behind_lo h.is_lo in
    absurd (c.in_err-hi.ensures.only hi h.behind_hi (stands_there c.in_ok-lo.lo.behind.now h.behind_lo (codes "max") hi h.behind_hi a_lo.1 h.is_hi))

pub returns-in_err-depth-clause-only : goal.returns-in_err-depth-clause-only
returns-in_err-depth-clause-only c lo hi depth objects steps h =
    let a_lo = c.in_ok-lo.ensures.only lo h.behind_lo h.is_lo in
    let a_hi = c.in_ok-hi.ensures.only hi h.behind_hi (stands_there c.in_ok-lo.lo.behind.now h.behind_lo (codes "max") hi h.behind_hi a_lo.1 h.is_hi) in
    absurd (c.in_err-depth.ensures.only depth h.behind_depth (stands_there c.in_ok-hi.hi.behind.now h.behind_hi (codes "depth") depth h.behind_depth a_hi.1 h.is_depth))

pub returns-in_err-objects-clause-only : goal.returns-in_err-objects-clause-only
returns-in_err-objects-clause-only c lo hi depth objects steps h =
    let a_lo = c.in_ok-lo.ensures.only lo h.behind_lo h.is_lo in
    let a_hi = c.in_ok-hi.ensures.only hi h.behind_hi (stands_there c.in_ok-lo.lo.behind.now h.behind_lo (codes "max") hi h.behind_hi a_lo.1 h.is_hi) in
    let a_depth = c.in_ok-depth.ensures.only depth h.behind_depth (stands_there c.in_ok-hi.hi.behind.now h.behind_hi (codes "depth") depth h.behind_depth a_hi.1 h.is_depth) in
    absurd (c.in_err-objects.ensures.only objects h.last (stands_there c.in_ok-depth.depth.behind.now h.behind_depth (codes "objects") objects h.last a_depth.1 h.is_objects))

pub returns-in_err-steps-clause-only : goal.returns-in_err-steps-clause-only
returns-in_err-steps-clause-only c lo hi depth objects steps h =
    let a_lo = c.in_ok-lo.ensures.only lo h.behind_lo h.is_lo in
    let a_hi = c.in_ok-hi.ensures.only hi h.behind_hi (stands_there c.in_ok-lo.lo.behind.now h.behind_lo (codes "max") hi h.behind_hi a_lo.1 h.is_hi) in
    let a_depth = c.in_ok-depth.ensures.only depth h.behind_depth (stands_there c.in_ok-hi.hi.behind.now h.behind_hi (codes "depth") depth h.behind_depth a_hi.1 h.is_depth) in
    let a_objects = c.in_ok-objects.ensures.only objects h.last (stands_there c.in_ok-depth.depth.behind.now h.behind_depth (codes "objects") objects h.last a_depth.1 h.is_objects) in
    absurd (c.in_err-steps.ensures.only steps (subst (λ x. IsNamed x (codes "steps") steps) (sym a_objects.1) h.is_steps))

pub returns-clause-only : goal.returns-clause-only
returns-clause-only c lo hi depth objects steps h =
    let a_lo = c.in_ok-lo.ensures.only lo h.behind_lo h.is_lo in
    let a_hi = c.in_ok-hi.ensures.only hi h.behind_hi (stands_there c.in_ok-lo.lo.behind.now h.behind_lo (codes "max") hi h.behind_hi a_lo.1 h.is_hi) in
    let a_depth = c.in_ok-depth.ensures.only depth h.behind_depth (stands_there c.in_ok-hi.hi.behind.now h.behind_hi (codes "depth") depth h.behind_depth a_hi.1 h.is_depth) in
    let a_objects = c.in_ok-objects.ensures.only objects h.last (stands_there c.in_ok-depth.depth.behind.now h.behind_depth (codes "objects") objects h.last a_depth.1 h.is_objects) in
    (a_lo.0, a_hi.0, a_depth.0, a_objects.0, c.in_ok-steps.ensures.only steps (subst (λ x. IsNamed x (codes "steps") steps) (sym a_objects.1) h.is_steps))
