-- Pools and hands by their fields.
use Rattle.work_pool.specs.Shows.{Shared, Worker}
use Rattle.work_pool.specs.declared.pools.Pool.TheInside as pool
use Rattle.work_pool.specs.declared.hands.Hand.TheInside as hand

-- what a pool shows
abbrev pub shared_of : pool.Inside → Shared
shared_of p = record { site = p.bay.now.site; usage = p.bay.now.usage; way = p.way }

-- what a hand shows
abbrev pub worker_of : hand.Inside → Worker
worker_of h = record { caller = h.pass; worker = h.worker; asked = h.asked }
