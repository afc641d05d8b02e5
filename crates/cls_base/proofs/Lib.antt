pub mod Books
pub mod Columns
pub mod Cutting
pub mod Depths
pub mod Firsts
pub mod Lists
pub mod Refilling
pub mod TypeOrders
