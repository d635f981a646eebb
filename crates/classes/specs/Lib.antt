-- What the contracts of private functions of `classes` cite: tables, and the engine's table. The public function has the contract of
-- `sector::scan_sector`.
pub mod Steps
pub mod Engine
