-- Any two answers that the contract of an exported function allows are equal, and so is what they leave in lent memory.
-- Assumes nothing.
use mathlib.Core.Path.{sym, ◌∙◌}
use Rattle.facts.proofs.Unique.{Unique, UniqueLeft}
use Rattle.crossing.proofs.Carries.{wrote_one}
use Rattle.sindovaleph_moves.proofs.answers.ReadRouteFromResultRouteRefusal.from.Kinds as index-of-kinds
use Rattle.sindovaleph_moves.proofs.answers.ReadRouteFromResultRouteRefusal.from.Reads as index-of
use Rattle.sindovaleph_moves.proofs.answers.RouteCountFromResultUsizeRefusal.from.Kinds as count-of-kinds
use Rattle.sindovaleph_moves.proofs.answers.RouteCountFromResultUsizeRefusal.from.Reads as count-of
use Rattle.sindovaleph_moves.proofs.sindovaleph_route_from.Kinds as route-from-kinds
use Rattle.sindovaleph_moves.proofs.sindovaleph_route_from.Reads as route-from
use Rattle.sindovaleph_moves.proofs.sindovaleph_route_at.Kinds as route-at-kinds
use Rattle.sindovaleph_moves.proofs.sindovaleph_route_at.Reads as route-at
use Rattle.sindovaleph_moves.proofs.sindovaleph_count_routes.Kinds as count-routes-kinds
use Rattle.sindovaleph_moves.proofs.sindovaleph_count_routes.Reads as count-routes
use Rattle.sindovaleph_moves.proofs.sindovaleph_move_out.Kinds as move-out-kinds
use Rattle.sindovaleph_moves.proofs.sindovaleph_move_out.Reads as move-out
use Rattle.sindovaleph_moves.proofs.sindovaleph_move_back.Kinds as move-back-kinds
use Rattle.sindovaleph_moves.proofs.sindovaleph_move_back.Reads as move-back

index_of_unique : Unique 0 index-of-kinds.ps index-of-kinds.r index-of.Post
index_of_unique κs a x y s t p q = p ∙ sym q

count_of_unique : Unique 0 count-of-kinds.ps count-of-kinds.r count-of.Post
count_of_unique κs a x y s t p q = p ∙ sym q

route_from_unique : Unique 1 route-from-kinds.ps route-from-kinds.r route-from.Post
route_from_unique κs a x y s t p q = p ∙ sym q

route_at_unique : Unique 1 route-at-kinds.ps route-at-kinds.r route-at.Post
route_at_unique κs a x y s t p q = p ∙ sym q

count_routes_unique : Unique 1 count-routes-kinds.ps count-routes-kinds.r count-routes.Post
count_routes_unique κs a x y s t p q = p ∙ sym q

move_out_unique : UniqueLeft 2 move-out-kinds.ps move-out-kinds.r move-out.Post (λ κs s. s.0.now)
move_out_unique κs a x y s t p q = wrote_one p q

move_back_unique : UniqueLeft 2 move-back-kinds.ps move-back-kinds.r move-back.Post (λ κs s. s.0.now)
move_back_unique κs a x y s t p q = wrote_one p q
