-- Any two answers that a contract of this crate allows are equal, and so are the rooms that it leaves.
-- Assumes nothing.
use mathlib.Core.Path.{◌≡◌, sym, ap, ◌∙◌}
use Rattle.facts.proofs.Unique.{Unique, UniqueLeft}
use Rattle.laying.specs.Passes.{State}
use Rattle.refusal.proofs.Told.{told_one}
use Rattle.classless.proofs.Rows.{row_one, route_one}
use Rattle.classless.proofs.route_from.Kinds as route-from-kinds
use Rattle.classless.proofs.route_from.Reads as route-from
use Rattle.classless.proofs.count_routes.Kinds as count-routes-kinds
use Rattle.classless.proofs.count_routes.Reads as count-routes
use Rattle.classless.proofs.route_at.Kinds as route-at-kinds
use Rattle.classless.proofs.route_at.Reads as route-at
use Rattle.classless.proofs.Route.len.Kinds as len-kinds
use Rattle.classless.proofs.Route.len.Reads as len
use Rattle.classless.proofs.significant.Kinds as significant-kinds
use Rattle.classless.proofs.significant.Reads as significant
use Rattle.classless.proofs.put_route.Kinds as put-route-kinds
use Rattle.classless.proofs.put_route.Reads as put-route

route_from_unique : Unique 1 route-from-kinds.ps route-from-kinds.r route-from.Post
route_from_unique κs a x y s t p q = row_one x y (p ∙ sym q)

count_routes_unique : Unique 1 count-routes-kinds.ps count-routes-kinds.r count-routes.Post
count_routes_unique κs a x y s t p q = told_one x y (p ∙ sym q)

route_at_unique : Unique 1 route-at-kinds.ps route-at-kinds.r route-at.Post
route_at_unique κs a x y s t p q = route_one x y (p ∙ sym q)

len_unique : Unique 0 len-kinds.ps len-kinds.r len.Post
len_unique κs a x y s t p q = p ∙ sym q

significant_unique : Unique 0 significant-kinds.ps significant-kinds.r significant.Post
significant_unique κs a x y s t p q = p ∙ sym q

put_route_unique : UniqueLeft 1 put-route-kinds.ps put-route-kinds.r put-route.Post (λ κs s. s.0.now)
put_route_unique κs a x y s t p q =
    let e : ◌≡◌ {A = State} (x, s.0.now) (y, t.0.now) = p ∙ sym q in
    (ap (λ (d : State). d.0) e, ap (λ (d : State). d.1) e)
