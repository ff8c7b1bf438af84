pub mod Composer
