-- Any two answers that the contract of a writer of routes allows are equal, and so are the rooms that it leaves.
-- Assumes nothing.
use Rattle.facts.proofs.Unique.{UniqueLeft}
use Rattle.encoder.proofs.Answers.{wrote_one}
use Rattle.routes.proofs.write_routes.Kinds as write-routes-kinds
use Rattle.routes.proofs.write_routes.Reads as write-routes
use Rattle.routes.proofs.write_route.Kinds as write-route-kinds
use Rattle.routes.proofs.write_route.Reads as write-route

write_routes_unique : UniqueLeft 2 write-routes-kinds.ps write-routes-kinds.r write-routes.Post (λ κs s. s.0.now)
write_routes_unique κs a x y s t p q = wrote_one p q

write_route_unique : UniqueLeft 1 write-route-kinds.ps write-route-kinds.r write-route.Post (λ κs s. s.0.now)
write_route_unique κs a x y s t p q = wrote_one p q
